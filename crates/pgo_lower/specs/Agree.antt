-- What a program is to its bound specification.
use Rattle.std.specs.Prelude.{◌≡◌, List, [], ◌∷◌, map}
use Rattle.pgo_base.specs.Lookup.{Name}
use Rattle.pgo_model.specs.System.{Words}
use Rattle.pgo_syntax.specs.declared.bound.Bound.{Bound}
use Rattle.pgo_syntax.specs.declared.bound.Instance.{Instance}
use Rattle.pgo_sections.specs.Code as codes
use Rattle.pgo_meaning.specs.Parameters.{places_of, own_name}
use Rattle.pgo_meaning.specs.Sections.{sections_of}
use Rattle.pgo_workers.specs.Walk.{Own}
use Rattle.pgo_accesses.specs.Accesses.{accesses_of}
use Rattle.pgo_accesses.specs.Programs.{attempt_of}
use Rattle.pgo_code.specs.See.{section_view}
use Rattle.pgo_code.specs.Steps.{Step, steps_of}
use Rattle.pgo_code.specs.declared.program.Code.{Code}
use Rattle.pgo_code.specs.declared.program.Section.{Section}
use Rattle.pgo_lower.specs.Lowered.{Tables, lowered}
use Rattle.pgo_lower.specs.Slots.{variable_view}
use Rattle.pgo_lower.specs.Made.{steps_here}

-- the label, and the steps without the blocks that they don't run
abbrev pub bare_section : Section → Name × List Step
bare_section s = (s.label, steps_here s.instructions.items)

abbrev pub lowered_section : Tables → Name × codes.Code → Name × List Step
lowered_section t p = (p.0, lowered t p.1)

module _ (b : Bound) where
  -- the labels are those of the code in the same order, and in every attempt the steps of each do what its code accesses
  abbrev pub SectionsAgree : Instance → List (Name × List Step) → List (Name × codes.Code) → Type 0
  SectionsAgree i [] [] = Unit {0}
  SectionsAgree i [] (q ∷ qs) = ⊥
  SectionsAgree i (p ∷ ps) [] = ⊥
  SectionsAgree i (p ∷ ps) (q ∷ qs) =
      (p.0 ≡ q.0) × ((own : Own) (d : Words) → steps_of (attempt_of b i own d) p.1 ≡ accesses_of (attempt_of b i own d) q.1) × SectionsAgree i ps qs

  -- what an instance runs: its variables are what the names of its unmapped parameters, value parameters and locals stand for, and
  -- its sections are those of the labels of its process
  pub record IsLowered (i : Instance) (c : Code) : Type 0 where
    pub variables : map variable_view c.variables.items ≡ map (λ q. (q.0, own_name q.1)) (places_of i.process i.archetype i.bindings)
    pub sections : SectionsAgree i (map section_view c.sections.items) (sections_of b.spec.macros i.process i.archetype i.bindings)

  -- one for each instance, in their order
  abbrev pub AreLowered : List Instance → List Code → Type 0
  AreLowered [] [] = Unit {0}
  AreLowered [] (c ∷ cs) = ⊥
  AreLowered (i ∷ is) [] = ⊥
  AreLowered (i ∷ is) (c ∷ cs) = IsLowered i c × AreLowered is cs
