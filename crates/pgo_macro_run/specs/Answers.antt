-- What a run of a macro's block answers.
use Rattle.std.specs.Prelude.{◌≡◌, List, Option, Some, None, option_map, Result, Ok, Err}
use Rattle.pgo_base.specs.Data.{Data}
use Rattle.pgo_base.specs.View.{data_of}
use Rattle.pgo_base.specs.declared.module.Defined.{Defined}
use Rattle.pgo_base.specs.declared.value.Value.{Value}
use Rattle.pgo_syntax.specs.declared.bound.Mapping.{Mapping}
use Rattle.pgo_sections.specs.Exec.{MacroEnd, Gives}
use Rattle.pgo_sections.specs.SectionRun.{ChoiceMade}
use Rattle.pgo_meaning.specs.Macros.{MacRead, MacWrite}
use Rattle.pgo_workers.specs.Operations.{Ends}
use Rattle.pgo_resource.specs.Answers.{StopsSo, SameWords}
use Rattle.pgo_resource.specs.Picked.{words_of, choices_of}
use Rattle.pgo_resource.specs.declared.picks.Picks.{Picks}
use Rattle.pgo_resource.specs.declared.resource.OpStop.{OpStop}
use Rattle.pgo_resource.specs.declared.resource.OpStop.TheVariants as stops

-- a value, and the new content where the block assigned it
abbrev pub read_view : Value × Option Value → Data × Option Data
read_view r = (data_of r.0, option_map data_of r.1)

-- a run that ends as f says behind the choices that are made, by the words that are not used yet, is answered so
abbrev pub EndsSo : {R A : Type 0} → (R → A) → (List ChoiceMade → MacroEnd A) → Picks → Picks → Result R OpStop → Type 0
EndsSo view f p q (Ok r) = SameWords p q × Ends f (choices_of p) (choices_of q) (Gives (view r))
EndsSo view f p q (Err x) = SameWords p q × StopsSo x (λ e. Ends f (choices_of p) (choices_of q) e)

-- a read of the content `old`
abbrev pub ReadsSo : Mapping → List Defined → (id old : Data) → Picks → Picks → Result (Value × Option Value) OpStop → Type 0
ReadsSo m ds id old p q r = EndsSo read_view (MacRead m ds id old (words_of p)) p q r

-- a write of v on the content `old`
abbrev pub WritesSo : Mapping → List Defined → (id old v : Data) → Picks → Picks → Result Value OpStop → Type 0
WritesSo m ds id old v p q r = EndsSo data_of (MacWrite m ds id old v (words_of p)) p q r

-- what an operator gives, or that it gives nothing
abbrev pub GivesSo : {R A : Type 0} → (R → A) → Option A → Result R OpStop → Type 0
GivesSo view o (Ok r) = o ≡ Some (view r)
GivesSo view o (Err stops.Blocked) = ⊥
GivesSo view o (Err stops.NoValue) = o ≡ None
GivesSo view o (Err stops.AssertFails) = ⊥
GivesSo view o (Err stops.NoMemory) = Unit {0}
