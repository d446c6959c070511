-- What an access does, and where it leads.
use Rattle.std.specs.Prelude.{◌≡◌, ℕ, suc, false, List, ◌∷◌, Option, Some, Result, Ok, Err}
use Rattle.pgo_base.specs.Data.{Data}
use Rattle.pgo_base.specs.View.{data_of}
use Rattle.pgo_base.specs.declared.value.Value.{Value}
use Rattle.pgo_model.specs.Outcome as outcome
use Rattle.pgo_sections.specs.Exec.{MacroEnd, Gives, Stops}
use Rattle.pgo_sections.specs.SectionRun.{ChoiceMade}
use Rattle.pgo_syntax.specs.declared.records.NoteKind.TheVariants as kinds
use Rattle.pgo_workers.specs.View.{Shown}
use Rattle.pgo_workers.specs.Tried.{LeafTree}
use Rattle.pgo_workers.specs.Walk.{Touch}
use Rattle.pgo_accesses.specs.Accesses.{Attempt, Progress, becoming}
use Rattle.pgo_code.specs.Steps.{Step}
use Rattle.pgo_resource.specs.declared.resource.OpStop.{OpStop}
use Rattle.pgo_resource.specs.declared.resource.OpStop.TheVariants as stops
use Rattle.pgo_places.specs.declared.flow.Flow.{Flow}
use Rattle.pgo_places.specs.declared.flow.Flow.TheVariants as flows
use Rattle.pgo_places.specs.Flows.{flow_walk}
use Rattle.pgo_places.specs.Stands.{Fixed, Stand, going, onward, resume}

-- the access of instruction i makes a content that was `old` one that is `new`, and what is done then is done from there on
abbrev pub Performs : Attempt → Fixed → Step → Stand → Flow → Stand → (old new : Data) → Type 0
Performs a k i s f t old new =
    (n : ℕ) (is : List Step)
    → (r : ℕ) × (leave : Data → Data) × (rest : Data → LeafTree)
    × (resume a k (suc n) (i ∷ is) s ≡ Touch r leave rest) × (new ≡ leave old) × (rest old ≡ flow_walk a k n i is f t)

-- a resource has become v
abbrev pub Puts : Option ℕ → (v : Data) → Stand → Flow → Stand → (new : Data) → Type 0
Puts o v s f t new = (r : ℕ) × (o ≡ Some r) × (new ≡ v) × (f ≡ flows.On) × (t ≡ onward (going (becoming false r v s.progress) s))

-- nothing but what it is now may be another
abbrev pub Keeps : Shown → Shown → Type 0
Keeps old new = new ≡ record old { current = new.current }

-- the note of a block that stopped so
abbrev pub NotesAs : OpStop → Flow → Type 0
NotesAs stops.Blocked f = f ≡ flows.Noted kinds.Blocked
NotesAs stops.NoValue f = f ≡ flows.Noted kinds.NoValue
NotesAs stops.AssertFails f = f ≡ flows.Noted kinds.AssertFails
NotesAs stops.NoMemory f = ⊥

-- what a block found in place of a value, behind the choices cs
abbrev pub StopsSo : {A : Type 0} → OpStop → (cs : List ChoiceMade) → MacroEnd A → Type 0
StopsSo stops.Blocked cs m = m ≡ Stops outcome.Blocked cs
StopsSo stops.NoValue cs m = m ≡ Stops outcome.NoValue cs
StopsSo stops.AssertFails cs m = m ≡ Stops outcome.AssertFails cs
StopsSo stops.NoMemory cs m = Unit {0}

-- the block of a read ended as the answer says, behind the choices that are made now
abbrev pub ReadAnswers : Result Value OpStop → (new : Data) → (now before : Progress) → MacroEnd (Data × Data) → Type 0
ReadAnswers (Ok v) new now p m = (m ≡ Gives (data_of v, new) now.points) × (record p { points = now.points } ≡ now)
ReadAnswers (Err x) new now p m = StopsSo x now.points m

abbrev pub WriteAnswers : Result Unit OpStop → (new : Data) → (now before : Progress) → MacroEnd Data → Type 0
WriteAnswers (Ok u) new now p m = (m ≡ Gives new now.points) × (record p { points = now.points } ≡ now)
WriteAnswers (Err x) new now p m = StopsSo x now.points m

-- nothing but want of memory stopped it
abbrev pub IsNoMemory : OpStop → Type 0
IsNoMemory stops.Blocked = ⊥
IsNoMemory stops.NoValue = ⊥
IsNoMemory stops.AssertFails = ⊥
IsNoMemory stops.NoMemory = Unit {0}

-- the answer says something
abbrev pub IsTold : {A : Type 0} → Result A OpStop → Type 0
IsTold (Ok v) = Unit {0}
IsTold (Err stops.Blocked) = Unit {0}
IsTold (Err stops.NoValue) = Unit {0}
IsTold (Err stops.AssertFails) = Unit {0}
IsTold (Err stops.NoMemory) = ⊥
