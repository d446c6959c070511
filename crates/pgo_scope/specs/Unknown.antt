-- Rule 1: a name has no meaning at its place.
--
-- A name of an expression or of a left side has one where a binder, a `with` or the head of its unit gives it one, and
-- else by where it stands: in each home those below. A global's name is no unknown name: where it may not stand is a rule
-- of its own.
use Rattle.std.specs.Prelude.{ℕ, Bool, true, false, not, ◌&&◌, ◌||◌, List, [], ◌∷◌, ◌++◌, slice_get, Option, Some, None, flat_map}
use Rattle.pgo_base.specs.Lookup.{Name, same_name}
use Rattle.pgo_model.specs.Names.{is_among}
use Rattle.pgo_model.specs.Written.{self_name, default_init_value}
use Rattle.pgo_syntax.specs.declared.name.PlacedName.{PlacedName}
use Rattle.pgo_syntax.specs.declared.archetype.Archetype.{Archetype}
use Rattle.pgo_syntax.specs.declared.process.Argument.{Argument}
use Rattle.pgo_syntax.specs.declared.process.Argument.TheVariants.{Value, Ref}
use Rattle.pgo_syntax.specs.declared.process.MappingTarget.{MappingTarget}
use Rattle.pgo_syntax.specs.declared.process.MappingTarget.TheVariants as targets
use Rattle.pgo_syntax.specs.declared.process.MappingClause.{MappingClause}
use Rattle.pgo_syntax.specs.declared.process.Process.{Process}
use Rattle.pgo_syntax.specs.declared.spec.Spec.{Spec}
use Rattle.pgo_uses.specs.declared.tables.Tables.{Tables}
use Rattle.pgo_uses.specs.declared.uses.Home.{Home}
use Rattle.pgo_uses.specs.declared.uses.Home.TheVariants.{Definition, Global, Macro, Mapping, Initial, InitialSet, Body, Process as InProcess, Argument as InArgument}
use Rattle.pgo_uses.specs.declared.uses.Form.{Form}
use Rattle.pgo_uses.specs.declared.uses.Form.TheVariants as forms
use Rattle.pgo_uses.specs.declared.uses.Use.{Use}
use Rattle.pgo_uses.specs.Names.{Rows, has_row, is_earlier, is_at}
use Rattle.pgo_uses.specs.Tables.{tables_of, operator_rows}
use Rattle.pgo_uses.specs.AllUses.{all_uses, parameter_names, variable_names}
use Rattle.pgo_scope.specs.declared.errors.ScopeError.TheVariants as errors
use Rattle.pgo_scope.specs.declared.finding.Finding.{Finding}
use Rattle.pgo_scope.specs.Findings.{found_if}

-- constants, operators and `defaultInitValue` have a meaning everywhere
abbrev pub is_constant : Tables → Name → Bool
is_constant ts x = has_row x ts.constants || has_row x operator_rows || same_name x default_init_value

-- and so have definitions and globals, but in definitions and in their own initial values
abbrev pub is_common : Tables → Name → Bool
is_common ts x = is_constant ts x || has_row x ts.definitions || has_row x ts.globals

-- a parameter or a local variable of an archetype
abbrev pub is_own_of : Option Archetype → Name → Bool
is_own_of None x = false
is_own_of (Some r) x = is_among x (parameter_names r.params) || is_among x (variable_names r.locals)

abbrev pub is_own : List Archetype → ℕ → Name → Bool
is_own rs j x = is_own_of (slice_get rs j) x

-- where `self` is known
abbrev pub knows_self : Home → Bool
knows_self (Definition i) = false
knows_self (Global i) = false
knows_self (Macro i) = true
knows_self Mapping = true
knows_self (Initial j) = true
knows_self (InitialSet j) = false
knows_self (Body j) = true
knows_self InProcess = false
knows_self InArgument = true

-- whether the name has a meaning in this home
abbrev pub means : Tables → List Archetype → Home → Name → Bool
means ts rs (Definition i) x = is_constant ts x || is_earlier i x ts.definitions || has_row x ts.globals
means ts rs (Global i) x = not (is_at i x ts.globals) && is_common ts x
means ts rs (Macro i) x = is_common ts x || same_name x self_name
means ts rs Mapping x = is_common ts x || same_name x self_name
means ts rs (Initial j) x = not (is_own rs j x) && (is_common ts x || same_name x self_name)
means ts rs (InitialSet j) x = not (is_own rs j x) && is_common ts x
means ts rs (Body j) x = is_common ts x || same_name x self_name
means ts rs InProcess x = is_common ts x
means ts rs InArgument x = is_common ts x || same_name x self_name

-- a macro calls only macros before it
abbrev pub may_call : Tables → Home → Name → Bool
may_call ts (Macro i) x = is_earlier i x ts.macros
may_call ts h x = has_row x ts.macros

abbrev pub is_unknown : Tables → List Archetype → Use → Form → Bool
is_unknown ts rs u forms.Alone = not u.inner && not (means ts rs u.around.home u.name)
is_unknown ts rs u (forms.Applied n) = not u.inner && not (means ts rs u.around.home u.name)
is_unknown ts rs u (forms.Assigned s) = not u.inner && not (means ts rs u.around.home u.name)
is_unknown ts rs u (forms.Called es) = not (may_call ts u.around.home u.name)
is_unknown ts rs u forms.Bound = false
is_unknown ts rs u forms.Named = false
is_unknown ts rs u forms.Field = false
is_unknown ts rs u forms.Label = false
is_unknown ts rs u forms.Target = false

abbrev pub unknown_use : Tables → List Archetype → Use → List Finding
unknown_use ts rs u = found_if (is_unknown ts rs u u.form) u.around.place (errors.Unknown u.name)

-- a name in the head of a process that is not one of those that may stand there
abbrev pub unknown_in : Rows → PlacedName → List Finding
unknown_in rows x = found_if (not (has_row x.name rows)) x.place (errors.Unknown x.name)

abbrev pub unknown_argument : Tables → Argument → List Finding
unknown_argument ts (Value p e) = []
unknown_argument ts (Ref x extent) = unknown_in ts.globals x

abbrev pub unknown_target : Tables → MappingTarget → List Finding
unknown_target ts (targets.Global x extent) = unknown_in ts.globals x
unknown_target ts (targets.Argument p n extent) = []

abbrev pub unknown_arguments : Tables → List Argument → List Finding
unknown_arguments ts [] = []
unknown_arguments ts (e ∷ es) = unknown_argument ts e ++ unknown_arguments ts es

abbrev pub unknown_clauses : Tables → List MappingClause → List Finding
unknown_clauses ts [] = []
unknown_clauses ts (c ∷ cs) = unknown_target ts c.target ++ unknown_in ts.mappings c.mapping ++ unknown_clauses ts cs

abbrev pub unknown_heads : Tables → List Process → List Finding
unknown_heads ts [] = []
unknown_heads ts (p ∷ ps) =
    unknown_in ts.archetypes p.archetype ++ unknown_arguments ts p.arguments ++ unknown_clauses ts p.clauses
    ++ unknown_heads ts ps

abbrev pub unknown_names : Spec → List Finding
unknown_names s =
    flat_map (unknown_use (tables_of s) s.archetypes) (all_uses s) ++ unknown_heads (tables_of s) s.processes
