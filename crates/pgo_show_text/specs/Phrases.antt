-- What the lines of the text say of each ending, each report and each status.
use Rattle.std.specs.Prelude.{ℕ, if◌then◌else◌, nat_eq, List, [], ◌∷◌, codes, decimal, Option, Some, None}
use Rattle.pgo_model.specs.Bundle.{indexed_text}
use Rattle.pgo_model.specs.Core.{End, Done, Stopped, JournalFull, Spent}
use Rattle.pgo_model.specs.ModuleText.{flatten}
use Rattle.pgo_model.specs.Outcome.{Kind, Blocked, NoValue, AssertFails, Many}
use Rattle.pgo_bundle.specs.Accounts.{AttemptLine, StepLine, NoteLine, HeldLine, HeldLogLine, DownLine, FullLine}
use Rattle.pgo_bundle.specs.BundleLog.{Version, One, Two}

abbrev pub status_text : ℕ → List ℕ
status_text s =
    if nat_eq s 0 then codes "each instance came to its end"
    else if nat_eq s 20 then codes "an instance was stopped by an expression without a value or an assertion that failed"
    else if nat_eq s 22 then codes "each instance that isn't at Done is blocked, whatever it chooses"
    else if nat_eq s 23 then codes "an instance was refused by the full journal"
    else codes "an instance did not come to its end"

-- a label; an instance that stands at none has no bytes of one
abbrev pub label_text : List ℕ → List ℕ
label_text [] = codes "no label"
label_text (b ∷ bs) = b ∷ bs

abbrev pub ending_text : Option End → List ℕ
ending_text (Some Done) = codes "has ended"
ending_text (Some Stopped) = codes "was stopped"
ending_text (Some JournalFull) = codes "ended since the journal was full"
ending_text (Some Spent) = codes "made as many attempts as it may"
ending_text None = codes "has not ended"

-- that an attempt was blocked: in version 1 it tried one of its choices, and since version 2 all of them
abbrev pub blocked_text : Version → List ℕ
blocked_text One = codes "was blocked behind entry "
blocked_text Two = codes "no choice was enabled behind entry "

-- the words of a note before the number of the entry behind which it is
abbrev pub note_text : Version → Kind → List ℕ
note_text v Blocked = blocked_text v
note_text v NoValue = codes "an expression had no value behind entry "
note_text v AssertFails = codes "an assertion failed behind entry "
note_text v Many = codes "its first 65536 choices were blocked, and there are more, behind entry "

-- what refused an attempt: an instance that held a resource or the journal, a pre-commit that failed, or the full journal
abbrev pub cause_text : AttemptLine → List ℕ
cause_text (HeldLine h x i) = flatten (codes "instance " ∷ decimal h ∷ codes " held " ∷ indexed_text x i ∷ [])
cause_text (HeldLogLine h) = flatten (codes "instance " ∷ decimal h ∷ codes " held $log" ∷ [])
cause_text (DownLine o x i) = flatten (codes "a pre-commit of " ∷ indexed_text x i ∷ codes " failed" ∷ [])
cause_text (StepLine n) = flatten (codes "the journal was full" ∷ [])
cause_text (NoteLine k p) = flatten (codes "the journal was full" ∷ [])
cause_text (FullLine n) = flatten (codes "the journal was full" ∷ [])

-- what an attempt came to
abbrev pub report_text : Version → AttemptLine → List ℕ
report_text v (StepLine n) = flatten (codes "committed, up to entry " ∷ decimal n ∷ [])
report_text v (NoteLine k p) = flatten (note_text v k ∷ decimal p ∷ [])
report_text v (HeldLine h x i) = flatten (codes "instance " ∷ decimal h ∷ codes " held " ∷ indexed_text x i ∷ [])
report_text v (HeldLogLine h) = flatten (codes "instance " ∷ decimal h ∷ codes " held $log" ∷ [])
report_text v (DownLine o x i) = flatten (codes "pre-commit " ∷ decimal o ∷ codes " of " ∷ indexed_text x i ∷ codes " failed" ∷ [])
report_text v (FullLine n) = flatten (codes "the journal was full at entry " ∷ decimal n ∷ [])
