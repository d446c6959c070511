-- What is drawn of an attempt, and where.
use Rattle.std.specs.Prelude.{ℕ, Bool, false, ◌&&◌, if◌then◌else◌, nat_eq, List, [], ◌∷◌, ◌++◌, codes, Option, Some, None}
use Rattle.pgo_base.specs.Lookup.{Name}
use Rattle.pgo_bundle.specs.Accounts.{AttemptLine, StepLine, NoteLine, HeldLine, HeldLogLine, DownLine, FullLine}
use Rattle.pgo_bundle.specs.BundleLog.{LoggedEntry}
use Rattle.pgo_model.specs.Core.{End, Done, Stopped, JournalFull, Spent}
use Rattle.pgo_model.specs.Machine.{nth}
use Rattle.pgo_model.specs.Options.{on}
use Rattle.pgo_model.specs.Outcome.{Kind, Blocked, NoValue, AssertFails, Many}
use Rattle.pgo_model.specs.ValueText.{same_bytes}

abbrev pub note_shape : Kind → List ℕ
note_shape Blocked = codes "blocked"
note_shape NoValue = codes "stopped"
note_shape AssertFails = codes "stopped"
note_shape Many = codes "blocked"

-- the shape of a mark
abbrev pub shape : AttemptLine → List ℕ
shape (StepLine n) = codes "committed"
shape (NoteLine kind p) = note_shape kind
shape (HeldLine h x i) = codes "held"
shape (HeldLogLine h) = codes "held"
shape (DownLine o x i) = codes "failed"
shape (FullLine n) = codes "full"

-- the number that its line has: of an entry, of the entries before it, of an instance or of a pre-commit
abbrev pub number_of : AttemptLine → ℕ
number_of (StepLine n) = n
number_of (NoteLine kind p) = p
number_of (HeldLine h x i) = h
number_of (HeldLogLine h) = h
number_of (DownLine o x i) = o
number_of (FullLine n) = n

-- behind how many entries an attempt that is none stands: as many as its line says; where something was held, or a pre-commit failed, its
-- line says none, and it stands where the attempt before it does
abbrev pub stands_behind : (before : ℕ) → AttemptLine → ℕ
stands_behind p (StepLine n) = n
stands_behind p (NoteLine kind q) = q
stands_behind p (HeldLine h x i) = p
stands_behind p (HeldLogLine h) = p
stands_behind p (DownLine o x i) = p
stands_behind p (FullLine n) = n

-- it has the shape and the number of the attempt before it
abbrev pub is_again : Option AttemptLine → AttemptLine → Bool
is_again None a = false
is_again (Some b) a = same_bytes (shape b) (shape a) && nat_eq (number_of b) (number_of a)

-- the label of the entry behind so many
abbrev pub label_behind : List LoggedEntry → ℕ → Name
label_behind es q = on [] (nth es q) (λ e. e.entry.change.label)

-- how an instance ended
abbrev pub ending_text : Option End → List ℕ
ending_text (Some Done) = codes "at its end"
ending_text (Some Stopped) = codes "stopped"
ending_text (Some JournalFull) = codes "journal full"
ending_text (Some Spent) = codes "attempts spent"
ending_text None = codes "not ended"

-- a byte in a text of XML
abbrev pub escaped_byte : ℕ → List ℕ
escaped_byte b = if nat_eq b 38 then codes "&amp;" else if nat_eq b 60 then codes "&lt;" else if nat_eq b 62 then codes "&gt;" else b ∷ []

abbrev pub escaped : List ℕ → List ℕ
escaped [] = []
escaped (b ∷ bs) = escaped_byte b ++ escaped bs
