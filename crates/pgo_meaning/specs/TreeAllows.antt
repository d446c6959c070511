-- Which steps the expansions of a bound specification allow.
use Rattle.std.specs.Prelude.{◌≡◌, List, [], ◌∷◌, map, Some}
use Rattle.pgo_base.specs.Data.{Data}
use Rattle.pgo_base.specs.Lookup.{Name, Vars, find}
use Rattle.pgo_model.specs.ModuleView.{defined_view}
use Rattle.pgo_model.specs.Written.{self_name}
use Rattle.pgo_syntax.specs.declared.bound.Bound.{Bound}
use Rattle.pgo_bound.specs.State.{IsState, variables_of}
use Rattle.pgo_sections.specs.Expansion.{Expansion, PathContext, Path}

abbrev pub path_context : Bound → Data → PathContext
path_context b id = record {
  defs = map defined_view b.defs;
  variables = variables_of b.spec;
  globals = map (λ d. d.name.name) b.spec.globals;
  id = id;
}

-- the expansion allows the step, where `self` is this identifier; what it ends in is a state
abbrev pub Leads : Bound → Data → Expansion → Vars → Vars → Type 0
Leads b id x s t = IsState b t × Path (path_context b id) x ((self_name, Some id) ∷ []) s t

-- of these expansions by their written labels, that of label a allows the step
abbrev pub TreeAllows : List (Name × Expansion) → Bound → Name → Data → Vars → Vars → Type 0
TreeAllows trees b a id s t = (x : Expansion) × (find a trees ≡ Some x) × Leads b id x s t
