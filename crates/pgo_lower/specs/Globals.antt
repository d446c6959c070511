-- What names are in a bound specification: those of globals, and those of an instance's parameters and locals.
use Rattle.std.specs.Prelude.{◌≡◌, ℕ, Bool, List, [], ◌∷◌, map, Option, Some, None}
use Rattle.std.specs.List.{AllByRecursion}
use Rattle.std.proofs.Props.{props}
use Rattle.pgo_base.specs.Lookup.{Name}
use Rattle.pgo_model.specs.Core.{number_among}
use Rattle.pgo_syntax.specs.declared.bound.Bound.{Bound}
use Rattle.pgo_syntax.specs.declared.bound.Instance.{Instance}
use Rattle.pgo_bound.specs.State.{kind_in}
use Rattle.pgo_sections.specs.Code.{Place}
use Rattle.pgo_meaning.specs.Parameters.{places_of}
use Rattle.pgo_meaning.specs.Sect.{is_by_element}
use Rattle.pgo_meaning.specs.System.{resource_of}
use Rattle.pgo_code.specs.Steps.{Target, Resource, Own}
use Rattle.pgo_lower.specs.declared.globals.Global.{Global}
use Rattle.pgo_lower.specs.declared.globals.Row.{Row}
use Rattle.pgo_lower.specs.Lowered.{Tables, target_of}

-- the number of a global as a whole, if it is a resource
abbrev pub whole_in : Bound → Name → Option ℕ
whole_in b g = number_among (map resource_of b.resources) (g, None)

abbrev pub by_element_in : Bound → Name → Bool
by_element_in b g = is_by_element (kind_in b g)

abbrev pub global_in : Bound → Name → Global
global_in b g = record { is_element = by_element_in b g; whole = whole_in b g }

-- each row has what its global is
abbrev pub AreRight : Bound → List Row → Type 0
AreRight b rs = AllByRecursion (λ r. (r.global.is_element ≡ by_element_in b r.name.now) × (r.global.whole ≡ whole_in b r.name.now)) rs

pub are_right_prop : (b : Bound) (rs : List Row) → IsProp (AreRight b rs)
are_right_prop b [] = hlevel props
are_right_prop b (r ∷ rs) = hlevel (props, are_right_prop b rs)

-- the target that stands for a place
abbrev pub targeted : Bound → Name × Place → Name × Target
targeted b q = (q.0, target_of (whole_in b) q.1)

abbrev pub targets_in : Bound → Instance → List (Name × Target)
targets_in b i = map (targeted b) (places_of i.process i.archetype i.bindings)

abbrev pub tables_in : Bound → Instance → Tables
tables_in b i = record { targets = targets_in b i; whole = whole_in b; by_element = by_element_in b }

-- the variable of the instance that a target is
abbrev pub own_target : Target → Option Name
own_target (Resource r) = None
own_target (Own x) = Some x
