-- Rule 2: a name has two meanings.
use Rattle.std.specs.Prelude.{ℕ, suc, Bool, true, false, not, ◌&&◌, ◌||◌, if◌then◌else◌, List, [], ◌∷◌, ◌++◌, Option, Some, None, flat_map}
use Rattle.pgo_base.specs.Tree.{Tree}
use Rattle.pgo_base.specs.Lookup.{Name, same_name}
use Rattle.pgo_model.specs.Written.{self_name, default_init_value}
use Rattle.pgo_syntax.specs.declared.name.PlacedName.{PlacedName}
use Rattle.pgo_syntax.specs.declared.macros.Macro.{Macro}
use Rattle.pgo_syntax.specs.declared.spec.Spec.{Spec}
use Rattle.pgo_uses.specs.declared.tables.Tables.{Tables}
use Rattle.pgo_uses.specs.declared.uses.Around.{Around}
use Rattle.pgo_uses.specs.declared.uses.Home.{Home}
use Rattle.pgo_uses.specs.declared.uses.Home.TheVariants as homes
use Rattle.pgo_uses.specs.declared.uses.Form.{Form}
use Rattle.pgo_uses.specs.declared.uses.Form.TheVariants as forms
use Rattle.pgo_uses.specs.declared.uses.Use.{Use}
use Rattle.pgo_uses.specs.Names.{Rows, has_row, first_at}
use Rattle.pgo_uses.specs.Uses.{uses}
use Rattle.pgo_uses.specs.Tables.{tables_of, operator_rows, macro_rows}
use Rattle.pgo_uses.specs.AllUses.{all_uses, macro_uses, names_of}
use Rattle.pgo_uses.specs.Heads.{shared_names, macro_names, mapping_names, archetype_names, process_names, unit_names}
use Rattle.pgo_scope.specs.declared.errors.ScopeError.TheVariants as errors
use Rattle.pgo_scope.specs.declared.finding.Finding.{Finding}
use Rattle.pgo_scope.specs.declared.twice.Heads.{Heads}
use Rattle.pgo_scope.specs.declared.twice.Heads.TheVariants.{Shared, Macros, Mappings, Archetypes, Processes}
use Rattle.pgo_scope.specs.Findings.{found_if}
use Rattle.pgo_scope.specs.TextOrder.{in_text_order}
use Rattle.pgo_scope.specs.Unknown.{knows_self}
use Rattle.pgo_scope.specs.Usage.{item_at}

-- each name that stands among those before it, which are rows with the number 0
abbrev pub repeated : Rows → List PlacedName → List Finding
repeated before [] = []
repeated before (x ∷ xs) =
    found_if (has_row x.name before) x.place (errors.Twice x.name) ++ repeated (before ++ (x.name, 0) ∷ []) xs

abbrev pub repeated_in : List PlacedName → List Finding
repeated_in xs = repeated [] (in_text_order (λ x. x.place) xs)

-- first case, in the heads of units: constants, definitions and globals share one scope; macros, mapping macros,
-- archetypes and processes have one each
abbrev pub names_in : Heads → Spec → List PlacedName
names_in Shared s = shared_names s
names_in Macros s = macro_names s.macros
names_in Mappings s = mapping_names s.mappings
names_in Archetypes s = archetype_names s.archetypes
names_in Processes s = process_names s.processes

abbrev pub declared_twice : Spec → List Finding
declared_twice s =
    repeated_in (names_in Shared s)
    ++ repeated_in (names_in Macros s)
    ++ repeated_in (names_in Mappings s)
    ++ repeated_in (names_in Archetypes s)
    ++ repeated_in (names_in Processes s)

-- third case: the name of an operator, or `defaultInitValue`
abbrev pub is_reserved : Name → Bool
is_reserved x = has_row x operator_rows || same_name x default_init_value

abbrev pub reserved_name : PlacedName → List Finding
reserved_name x = found_if (is_reserved x.name) x.place (errors.Twice x.name)

-- names that archetypes declare may be those of globals
abbrev pub may_be_global : Home → Bool
may_be_global (homes.Body j) = true
may_be_global h = false

-- the name hides one that is in scope where it is bound or declared
abbrev pub hides : Tables → Use → Bool
hides ts u =
    u.inner || is_reserved u.name || has_row u.name ts.constants || has_row u.name ts.definitions
    || (same_name u.name self_name && knows_self u.around.home)

-- second case, and the first in the heads and bodies of units: a name that is bound or declared there
abbrev pub hiding_of : Tables → Use → Form → Bool
hiding_of ts u forms.Bound = hides ts u || has_row u.name ts.globals
hiding_of ts u forms.Named = hides ts u || (has_row u.name ts.globals && not (may_be_global u.around.home))
hiding_of ts u f = false

abbrev pub hiding_use : Tables → Use → List Finding
hiding_use ts u = found_if (hiding_of ts u u.form) u.around.place (errors.Twice u.name)

-- fourth case: the names that may not stand in the arguments of a macro, in that for each parameter, and in each behind
-- those
--
-- These are the names that the macro's own expressions bind, and, in the argument for a parameter, those that may not stand
-- in an argument in which the parameter is handed on to another macro.
abbrev pub MacroCaptures : Type 0
MacroCaptures = List (Name → Bool) × (Name → Bool)

-- the names of all macros, and of the first of them the names that may not stand in their arguments
abbrev pub CaptureTable : Type 0
CaptureTable = Rows × List MacroCaptures

-- those of the macro, where it is one of the first
abbrev pub macro_captures_of : CaptureTable → Name → Option MacroCaptures
macro_captures_of table m = item_at (first_at m table.0) table.1

-- a name stands there, bound or not
abbrev pub stands_of : Name → Use → Form → Bool
stands_of x u forms.Field = false
stands_of x u f = same_name x u.name

abbrev pub stands_in : Name → List Use → Bool
stands_in x [] = false
stands_in x (u ∷ us) = stands_of x u u.form || stands_in x us

abbrev pub binds_of : Name → Use → Form → Bool
binds_of x u forms.Bound = same_name x u.name
binds_of x u f = false

-- b, or one of these binds the name
abbrev pub is_bound_in : Bool → List Use → Name → Bool
is_bound_in b [] x = b
is_bound_in b (u ∷ us) x = is_bound_in (binds_of x u u.form || b) us x

abbrev pub or_none : Option MacroCaptures → List (Name → Bool)
or_none None = []
or_none (Some r) = r.0

-- for each parameter of the macro, the names that may not stand in its argument
abbrev pub forbidden_of : CaptureTable → Name → List (Name → Bool)
forbidden_of table m = or_none (macro_captures_of table m)

-- b, or x may not stand in this argument, in which p stands
abbrev pub handed_at : Bool → (Name → Bool) → Around → Name → Tree → Name → Bool
handed_at b f a p t x = if stands_in p (uses [] a t) then f x || b else b

-- b, or x may not stand in one of these arguments in which p stands
abbrev pub handed_on : Bool → List (Name → Bool) → Around → Name → List Tree → Name → Bool
handed_on b [] a p ts x = b
handed_on b (f ∷ fs) a p [] x = b
handed_on b (f ∷ fs) a p (t ∷ ts) x = handed_on (handed_at b f a p t x) fs a p ts x

abbrev pub calls_capture : Bool → CaptureTable → Name → Use → Form → Name → Bool
calls_capture b table p u (forms.Called ts) x = handed_on b (forbidden_of table u.name) u.around p ts x
calls_capture b table p u f x = b

-- b, or x may not stand where p is handed on by one of these
abbrev pub some_capture : Bool → CaptureTable → Name → List Use → Name → Bool
some_capture b table p [] x = b
some_capture b table p (u ∷ us) x = some_capture (calls_capture b table p u u.form x) table p us x

-- x may not stand in the argument for the parameter p of a macro with these names in it
abbrev pub forbidden_for : CaptureTable → List Use → Name → Name → Bool
forbidden_for table us p x = is_bound_in (some_capture false table p us x) us x

abbrev pub forbidden_for_each : CaptureTable → List Use → List Name → List (Name → Bool)
forbidden_for_each table us [] = []
forbidden_for_each table us (p ∷ ps) = forbidden_for table us p ∷ forbidden_for_each table us ps

abbrev pub macro_captures : CaptureTable → List Use → List Name → MacroCaptures
macro_captures table us ps = (forbidden_for_each table us ps, is_bound_in false us)

-- the table, and what may not stand in the arguments of these macros, each by those before it
abbrev pub captures_from : CaptureTable → ℕ → List Macro → CaptureTable
captures_from table i [] = table
captures_from table i (m ∷ ms) =
    captures_from (table.0, table.1 ++ macro_captures table (macro_uses i m) (names_of m.params) ∷ []) (suc i) ms

-- the table of the macros, which have these names
abbrev pub captures_by : Rows → List Macro → CaptureTable
captures_by rows ms = captures_from (rows, []) 0 ms

abbrev pub captures : List Macro → CaptureTable
captures ms = captures_by (macro_rows ms) ms

-- the names in an argument that may not stand there
abbrev pub captured_of : (Name → Bool) → Use → Form → List Finding
captured_of f u forms.Field = []
captured_of f u form = found_if (f u.name) u.around.place (errors.Twice u.name)

abbrev pub captured_use : (Name → Bool) → Use → List Finding
captured_use f u = captured_of f u u.form

abbrev pub captured_at : (Name → Bool) → Around → Tree → List Finding
captured_at f a t = flat_map (captured_use f) (uses [] a t)

-- the names in all of these arguments that may not stand there
abbrev pub captured_behind : (Name → Bool) → Around → List Tree → List Finding
captured_behind f a [] = []
captured_behind f a (t ∷ ts) = captured_at f a t ++ captured_behind f a ts

-- the names in these arguments that may not stand there: in the first ones by the list, in all behind them by g
abbrev pub captured_in : List (Name → Bool) → (Name → Bool) → Around → List Tree → List Finding
captured_in [] g a ts = captured_behind g a ts
captured_in (f ∷ fs) g a [] = []
captured_in (f ∷ fs) g a (t ∷ ts) = captured_at f a t ++ captured_in fs g a ts

abbrev pub captured_by : Option MacroCaptures → Around → List Tree → List Finding
captured_by None a ts = []
captured_by (Some r) a ts = captured_in r.0 r.1 a ts

abbrev pub call_captures : CaptureTable → Use → Form → List Finding
call_captures table u (forms.Called ts) = captured_by (macro_captures_of table u.name) u.around ts
call_captures table u f = []

abbrev pub capture_use : CaptureTable → Use → List Finding
capture_use table u = call_captures table u u.form

abbrev pub names_twice : Spec → List Finding
names_twice s =
    declared_twice s
    ++ flat_map reserved_name (unit_names s)
    ++ (flat_map (hiding_use (tables_of s)) (all_uses s) ++ flat_map (capture_use (captures s.macros)) (all_uses s))
