-- Rule 5: what may not be assigned is assigned, in the text or by a macro's body put in place of its call.
use Rattle.std.specs.Prelude.{Bool, true, false, not, ◌||◌, if◌then◌else◌, List, [], ◌∷◌, ◌++◌, slice_get, Option, Some, None, flat_map}
use Rattle.pgo_base.specs.Tree.{Tree}
use Rattle.pgo_base.specs.Lookup.{Name, same_name}
use Rattle.pgo_model.specs.Names.{is_among}
use Rattle.pgo_syntax.specs.declared.macros.Macro.{Macro}
use Rattle.pgo_syntax.specs.declared.archetype.Archetype.{Archetype}
use Rattle.pgo_syntax.specs.declared.archetype.Parameter.{Parameter}
use Rattle.pgo_syntax.specs.declared.archetype.ParameterKind.TheVariants as kinds
use Rattle.pgo_syntax.specs.declared.spec.Spec.{Spec}
use Rattle.pgo_uses.specs.declared.uses.Home.{Home}
use Rattle.pgo_uses.specs.declared.uses.Home.TheVariants as homes
use Rattle.pgo_uses.specs.declared.uses.Form.{Form}
use Rattle.pgo_uses.specs.declared.uses.Form.TheVariants as forms
use Rattle.pgo_uses.specs.declared.uses.Use.{Use}
use Rattle.pgo_uses.specs.Tables.{variable_name, value_name}
use Rattle.pgo_uses.specs.AllUses.{all_uses, names_of, variable_names}
use Rattle.pgo_scope.specs.declared.errors.ScopeError.TheVariants as errors
use Rattle.pgo_scope.specs.declared.finding.Finding.{Finding}
use Rattle.pgo_scope.specs.declared.usage.Usage.{Usage}
use Rattle.pgo_scope.specs.Findings.{found_if, found_where}
use Rattle.pgo_scope.specs.Usage.{MacroTable, macro_table, parameters_of, is_assigned, left_base}

-- the names of `ref` parameters
abbrev pub ref_names : List Parameter → List Name
ref_names [] = []
ref_names (p ∷ ps) = elim p.kind [ kinds.Value ↦ ref_names ps | kinds.Ref extent ↦ p.name.name ∷ ref_names ps ]

abbrev pub assignable_in : Option Archetype → Name → Bool
assignable_in None x = false
assignable_in (Some r) x = is_among x (ref_names r.params) || is_among x (variable_names r.locals)

abbrev pub parameter_in : Option Macro → Name → Bool
parameter_in None x = false
parameter_in (Some m) x = is_among x (names_of m.params)

-- what may be assigned: in an archetype its `ref` parameters and its local variables, in a macro its parameters, in a
-- mapping macro `$variable`. A value parameter, a name of a `with`, a constant, a definition, `defaultInitValue` and `self`
-- are none of these; other names are refused by the rules before this one.
abbrev pub may_assign : Spec → Home → Name → Bool
may_assign s (homes.Body j) x = assignable_in (slice_get s.archetypes j) x
may_assign s (homes.Macro i) x = parameter_in (slice_get s.macros i) x
may_assign s homes.Mapping x = same_name x variable_name
may_assign s h x = false

-- an argument for the parameter p that the macro assigns: it must be a left side, of a variable that may be assigned;
-- `$value` is none, nor is a part of it
abbrev pub assigned_argument : Spec → Use → Name → Option Name → List Finding
assigned_argument s u p None = found_if true u.around.place (errors.AssignedNotRef p)
assigned_argument s u p (Some x) =
    if same_name x value_name then found_if true u.around.place (errors.AssignedNotRef p)
    else found_if (not (may_assign s u.around.home x)) u.around.place (errors.AssignedNotRef x)

abbrev pub assigned_if : Spec → Use → Name → Usage → Tree → List Finding
assigned_if s u p w t = found_where (is_assigned w) (assigned_argument s u p (left_base t))

abbrev pub assigned_arguments : Spec → Use → List (Name × Usage) → List Tree → List Finding
assigned_arguments s u [] ts = []
assigned_arguments s u (q ∷ qs) [] = []
assigned_arguments s u (q ∷ qs) (t ∷ ts) = assigned_if s u q.0 q.1 t ++ assigned_arguments s u qs ts

abbrev pub assigned_of : Spec → MacroTable → Use → Form → List Finding
assigned_of s table u (forms.Assigned shape) =
    found_if (not (may_assign s u.around.home u.name)) u.around.place (errors.AssignedNotRef u.name)
assigned_of s table u (forms.Called ts) = assigned_arguments s u (parameters_of table u.name) ts
assigned_of s table u f = []

abbrev pub assigned_use : Spec → MacroTable → Use → List Finding
assigned_use s table u = assigned_of s table u u.form

abbrev pub wrong_assignments : Spec → List Finding
wrong_assignments s = flat_map (assigned_use s (macro_table s.macros)) (all_uses s)
