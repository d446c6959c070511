-- What the calls of resources and boards answer.
use Rattle.std.specs.Prelude.{◌≡◌, ℕ, Bool, false, List, Option, Some, None, Result, Ok, Err}
use Rattle.pgo_base.specs.Data.{Data}
use Rattle.pgo_base.specs.View.{data_of}
use Rattle.pgo_base.specs.declared.log.Entry.{Entry}
use Rattle.pgo_base.specs.declared.module.Defined.{Defined}
use Rattle.pgo_base.specs.declared.value.Value.{Value}
use Rattle.pgo_model.specs.Accounts.{journal}
use Rattle.pgo_model.specs.Core.{is_listed}
use Rattle.pgo_model.specs.Outcome as outcome
use Rattle.pgo_syntax.specs.declared.bound.Mapping.{Mapping}
use Rattle.pgo_sections.specs.Exec.{MacroEnd, Gives, Stops}
use Rattle.pgo_sections.specs.SectionRun.{ChoiceMade}
use Rattle.pgo_workers.specs.Operations.{read_of, write_of, Ends}
use Rattle.pgo_workers.specs.View.{Shown, View, World, TakeHeld, JournalHeld, JournalFull}
use Rattle.pgo_resource.specs.declared.attempts.NotCommitted.{NotCommitted}
use Rattle.pgo_resource.specs.declared.attempts.NotNoted.{NotNoted}
use Rattle.pgo_syntax.specs.declared.records.Note.{Note}
use Rattle.pgo_resource.specs.Picked.{attempt_words, words_of, choices_of}
use Rattle.pgo_syntax.specs.declared.records.Refusal.{Refusal}
use Rattle.pgo_resource.specs.declared.picks.Picks.{Picks}
use Rattle.pgo_resource.specs.declared.resource.OpStop.{OpStop}
use Rattle.pgo_resource.specs.declared.resource.OpStop.TheVariants as stops
use Rattle.pgo_syntax.specs.declared.records.Refusal.TheVariants as refusals

-- there is a number, and it makes a listed pair
abbrev pub fails : List (ℕ × ℕ) → Option ℕ → ℕ → Bool
fails ps None n = false
fails ps (Some r) n = is_listed ps r n

-- what an operation finds in place of a value
abbrev pub StopsSo : {A : Type 0} → OpStop → ((List ChoiceMade → MacroEnd A) → Type 0) → Type 0
StopsSo stops.Blocked E = E (λ cs. Stops outcome.Blocked cs)
StopsSo stops.NoValue E = E (λ cs. Stops outcome.NoValue cs)
StopsSo stops.AssertFails E = E (λ cs. Stops outcome.AssertFails cs)
StopsSo stops.NoMemory E = Unit {0}

-- the words are the same, those of the attempt and those of the leaf under way
abbrev pub SameWords : Picks → Picks → Type 0
SameWords p q = (words_of q ≡ words_of p) × (attempt_words q ≡ attempt_words p)

-- a read of a content that was as `old` is answered so, and the content is as `new`
abbrev pub Read : Mapping → List Defined → (id : Data) → (at : Option Data) → (old new : Shown) → Picks → Picks → Result Value OpStop → Type 0
Read m ds id at old new p q (Ok v) =
    (new ≡ record old { current = new.current }) × SameWords p q
    × Ends (read_of m ds id at (words_of p) old.current) (choices_of p) (choices_of q) (Gives (data_of v, new.current))
Read m ds id at old new p q (Err x) =
    (new ≡ old) × SameWords p q × StopsSo x (λ e. Ends (read_of m ds id at (words_of p) old.current) (choices_of p) (choices_of q) e)

-- a write of x
abbrev pub Written : Mapping → List Defined → (id : Data) → (at : Option Data) → (x : Data) → (old new : Shown) → Picks → Picks → Result Unit OpStop → Type 0
Written m ds id at x old new p q (Ok u) =
    (new ≡ record old { current = new.current }) × SameWords p q
    × Ends (write_of m ds id at x (words_of p) old.current) (choices_of p) (choices_of q) (Gives new.current)
Written m ds id at x old new p q (Err e) =
    (new ≡ old) × SameWords p q × StopsSo e (λ f. Ends (write_of m ds id at x (words_of p) old.current) (choices_of p) (choices_of q) f)

module _ {S D : Type 0} (W : World S D) where
  abbrev pub RefusedTake : (r : ℕ) → Refusal → View D → View D → Type 0
  RefusedTake r (refusals.Held q h) b c = (q ≡ r) × TakeHeld W r h b c
  RefusedTake r (refusals.Down q o) b c = ⊥
  RefusedTake r (refusals.Full n) b c = ⊥
  RefusedTake r (refusals.Many leaves n) b c = ⊥

  abbrev pub JournalRefuses : Refusal → View D → View D → Type 0
  JournalRefuses (refusals.Held q h) b c = (q ≡ journal) × JournalHeld W h b c
  JournalRefuses (refusals.Down q o) b c = ⊥
  JournalRefuses (refusals.Full n) b c = JournalFull W n b c
  JournalRefuses (refusals.Many leaves n) b c = ⊥

  -- the entry comes back
  abbrev pub RefusedCommit : Entry → NotCommitted → View D → View D → Type 0
  RefusedCommit e x b c = (x.entry ≡ e) × JournalRefuses x.refusal b c

  abbrev pub HolderRefuses : Refusal → View D → View D → Type 0
  HolderRefuses (refusals.Held q h) b c = (q ≡ journal) × JournalHeld W h b c
  HolderRefuses (refusals.Down q o) b c = ⊥
  HolderRefuses (refusals.Full n) b c = ⊥
  HolderRefuses (refusals.Many leaves n) b c = ⊥

  abbrev pub RefusedNote : Note → NotNoted → View D → View D → Type 0
  RefusedNote n x b c = (x.note ≡ n) × HolderRefuses x.refusal b c
