-- What is asked so that a section leads from a state to a state, and reads and writes resources alone.
use Rattle.std.specs.Prelude.{◌≡◌, false, Some}
use Rattle.pgo_base.specs.Lookup.{Name, find}
use Rattle.pgo_syntax.specs.declared.bound.Bound.{Bound}
use Rattle.pgo_syntax.specs.declared.bound.Instance.{Instance}
use Rattle.pgo_bound.specs.State.{AreDifferent, kind_in, variables_of}
use Rattle.pgo_sections.specs.Code.{Whole, Code}
use Rattle.pgo_sections.specs.Domains.{ByElements}
use Rattle.pgo_meaning.specs.Parameters.{places_of}
use Rattle.pgo_meaning.specs.Sect.{is_by_element}
use Rattle.pgo_meaning.specs.TreesAgree.{sections_at}

-- the variables have names that differ; an unmapped parameter is of no global that is bound by element; and the instance's
-- sections change such globals by their elements alone
pub record KeepsElements (b : Bound) (i : Instance) : Type 0 where
  pub differ : AreDifferent (variables_of b.spec)
  pub unmapped : (x g : Name) → find x (places_of i.process i.archetype i.bindings) ≡ Some (Whole g) → is_by_element (kind_in b g) ≡ false
  pub elements : (l : Name) (c : Code) → find l (sections_at b i) ≡ Some c → ByElements (λ g. is_by_element (kind_in b g)) c
