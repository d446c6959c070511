-- Where a leaf that has come to its next event leads an attempt.
use Rattle.std.specs.Prelude.{◌≡◌, ◌<◌, ℕ, Bool, true, false, Option, Some, None}
use Rattle.pgo_syntax.specs.declared.records.NoteKind.TheVariants as kinds
use Rattle.pgo_workers.specs.Walk.{Walk, Again, goes_back}
use Rattle.pgo_resource.specs.declared.sections.NextEvent.{NextEvent}
use Rattle.pgo_resource.specs.declared.sections.NextEvent.TheVariants as events

abbrev pub is_blocked : NextEvent → Bool
is_blocked (events.Access r) = false
is_blocked events.Commit = false
is_blocked (events.Note kinds.Blocked) = true
is_blocked (events.Note kinds.NoValue) = false
is_blocked (events.Note kinds.AssertFails) = false
is_blocked (events.Note kinds.Many) = false

-- none where the next leaf begins; else whether contents are put back
abbrev pub Turns : Option Bool → (old new : Walk) → Type 0
Turns None old new = old ≡ Again new
Turns (Some false) old new = (new ≡ old) × (goes_back old ≡ false)
Turns (Some true) old new = (old ≡ Again new) × (goes_back new ≡ false)

-- each leaf that is tried leaves one less
abbrev pub IsFewer : Option Bool → (old new : ℕ) → Type 0
IsFewer None old new = new < old
IsFewer (Some b) old new = Unit {0}
