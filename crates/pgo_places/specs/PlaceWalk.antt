-- What is left at a place.
use Rattle.std.specs.Prelude.{Box, ℕ, List, [], length, drop, map}
use Rattle.pgo_model.specs.Machine.{nth}
use Rattle.pgo_model.specs.Options.{on}
use Rattle.pgo_syntax.specs.RecordView.{kind_view}
use Rattle.pgo_syntax.specs.declared.bound.Bound.{Bound}
use Rattle.pgo_meaning.specs.System.{system_of}
use Rattle.pgo_model.specs.System.{Words}
use Rattle.pgo_tries.specs.Sections.{along}
use Rattle.pgo_resource.specs.Picked.{attempt_words}
use Rattle.pgo_workers.specs.Tried.{Leads, LeafTree, and_then, on_end, trying}
use Rattle.pgo_workers.specs.Walk as walks
use Rattle.pgo_workers.specs.Walk.{Own, Walk, Goes}
use Rattle.pgo_accesses.specs.Accesses as accesses
use Rattle.pgo_accesses.specs.Accesses.{no_value, stuck}
use Rattle.pgo_code.specs.Steps.{Step}
use Rattle.pgo_code.specs.See.{step_of}
use Rattle.pgo_code.specs.declared.instruction.Instruction.{Instruction}
use Rattle.pgo_code.specs.declared.program.Code.{Code}
use Rattle.pgo_code.specs.declared.program.Program.{Program}
use Rattle.pgo_places.specs.declared.attempt.Attempt.{Attempt}
use Rattle.pgo_places.specs.declared.place.Place.{Place}
use Rattle.pgo_places.specs.declared.place.Finish.{Finish}
use Rattle.pgo_places.specs.declared.place.Finish.TheVariants as finishes
use Rattle.pgo_places.specs.PlaceView.{stand_view, fixed_view, attempt_view}
use Rattle.pgo_places.specs.Stands.{Fixed, Stand, labelled, limited, resume}
use Rattle.pgo_places.specs.FirstStands.{start_of}

-- how a section has come to its end
abbrev pub stop_walk : Finish → Stand → LeafTree
stop_walk (finishes.Ended l) s = walks.Stop (Leads (Goes (labelled l s.own) s.progress.prints))
stop_walk (finishes.Noted kind) s = walks.Stop (stuck (kind_view kind) s.progress.points)

-- what is left at a place of these instructions
abbrev pub core_walk : accesses.Attempt → Fixed → List Step → Place → LeafTree
core_walk a k xs p = on (resume a k p.left (drop p.position xs) (stand_view p.stand)) p.stopped (λ e. stop_walk e (stand_view p.stand))

abbrev pub instructions_in : List Code → (k j : ℕ) → List Instruction
instructions_in cs k j = on [] (nth cs k) (λ c. on [] (nth c.sections.items j) (λ s. s.instructions.items))

abbrev pub steps_at : Program → Place → List Step
steps_at p place = map step_of (instructions_in p.codes.items place.instance place.section)

-- how many resources there are
abbrev pub count_of : Bound → ℕ
count_of b = length (system_of b).resources

-- what is left of the leaf under way
abbrev pub leaf_in : Program → Place → LeafTree
leaf_in p place = limited (count_of p.bound.now) (core_walk (attempt_view p.bound.now place.fixed.value) (fixed_view place.fixed.value) (steps_at p place) place)

-- the leaf with the words d, from these own components
abbrev pub leaf_from : Program → Place → Own → Words → LeafTree
leaf_from p place start d =
    limited (count_of p.bound.now)
    (on no_value (nth p.codes.items place.instance) (λ c.
    let xs = steps_at p place in
    resume (attempt_view p.bound.now place.fixed.value) (fixed_view place.fixed.value) (length xs) xs (start_of c start (attempt_words place.stand.picks) d)))

-- what is left of an attempt: its leaf, and those behind it
abbrev pub walk_in : Program → Attempt → Walk
walk_in p q =
    let first = attempt_words q.place.stand.picks in
    and_then (leaf_in p q.place) (on_end first (λ path. trying (λ path. leaf_from p q.place q.start (along 0 path first)) first q.left path))

-- the same of an attempt in a box
abbrev pub boxed_walk : {Z : Type 0} → Program → Box Attempt Z → Walk
boxed_walk p q = walk_in p q.value
