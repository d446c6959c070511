-- What is recorded of an attempt that found more blocked leaves than are tried: no note, but the refusal Many, with how many were tried.
use Rattle.std.specs.List.{list_all}
use Rattle.std.specs.Prelude.{ℕ, Bool, true, false, List, map, nat_eq}
use Rattle.pgo_model.specs.Outcome.{most_leaves}
use Rattle.pgo_syntax.specs.declared.records.NoteKind as kinds
use Rattle.pgo_syntax.specs.declared.records.NoteKind.TheVariants as kind
use Rattle.pgo_syntax.specs.declared.records.Refusal as refusals
use Rattle.pgo_syntax.specs.declared.records.Refusal.TheVariants as refusal
use Rattle.pgo_syntax.specs.declared.records.AttemptResult as results
use Rattle.pgo_syntax.specs.declared.records.AttemptResult.TheVariants as result
use Rattle.pgo_syntax.specs.declared.records.Record as records

-- an attempt with a note of this kind is recorded as a note
abbrev pub is_noted : kinds.NoteKind → Bool
is_noted kind.Blocked = true
is_noted kind.NoValue = true
is_noted kind.AssertFails = true
is_noted kind.Many = false

-- where it is Many, it says as many leaves as are tried
abbrev pub counts_leaves : refusals.Refusal → Bool
counts_leaves (refusal.Held r h) = true
counts_leaves (refusal.Down r o) = true
counts_leaves (refusal.Full n) = true
counts_leaves (refusal.Many leaves n) = nat_eq leaves most_leaves

-- an attempt is recorded as this refusal where it found Many, and else as it always is
abbrev pub tells_many : results.AttemptResult → Bool
tells_many (result.Step n) = true
tells_many (result.Noted k n) = is_noted k
tells_many (result.Refused r) = counts_leaves r

-- the record of an attempt that has a note of this kind with n entries before it
abbrev pub noted_result : kinds.NoteKind → ℕ → results.AttemptResult
noted_result kind.Blocked n = result.Noted kind.Blocked n
noted_result kind.NoValue n = result.Noted kind.NoValue n
noted_result kind.AssertFails n = result.Noted kind.AssertFails n
noted_result kind.Many n = result.Refused (refusal.Many most_leaves n)

-- what became of each attempt
abbrev pub results_in : List records.Record → List results.AttemptResult
results_in rs = map (λ (r : records.Record). r.result) rs

-- each record tells Many as it should
abbrev pub all_tell_many : List records.Record → Bool
all_tell_many rs = list_all tells_many (results_in rs)
