-- Rule 8: an initial value, a set or a value argument has no value, or what a variable starts with is too deep.
use Rattle.std.specs.Prelude.{ℕ, Bool, false, if◌then◌else◌, List, ◌++◌, Option, Some, None}
use Rattle.std.specs.List.{filter_map, flat_map, list_any}
use Rattle.pgo_base.specs.Data.{Data}
use Rattle.pgo_base.specs.Tree.{Tree}
use Rattle.pgo_base.specs.Lookup.{Name}
use Rattle.pgo_base.specs.declared.module.Defined.{Defined}
use Rattle.pgo_syntax.specs.declared.archetype.Archetype.{Archetype}
use Rattle.pgo_syntax.specs.declared.binding.Origin.{Origin}
use Rattle.pgo_syntax.specs.declared.binding.Origin.TheVariants.{Equals, In}
use Rattle.pgo_syntax.specs.declared.declaration.Declaration.{Declaration}
use Rattle.pgo_syntax.specs.declared.process.Argument.{Argument}
use Rattle.pgo_syntax.specs.declared.process.Argument.TheVariants as arguments
use Rattle.pgo_heads.specs.declared.findings.Lack.TheVariants.{NoSet}
use Rattle.pgo_model.specs.Written.{self_name}
use Rattle.pgo_operands.specs.Mentions.{mentions}
use Rattle.pgo_bound.specs.Values.{Start, is_unset, argument_start, start_in, default_start, start_of_value, closed_value}
use Rattle.pgo_bound.specs.Runs.{Run, Handed, run_ids, is_some_item}
use Rattle.pgo_bound.specs.BoundOf.{GlobalStart}
use Rattle.pgo_heads.specs.Findings.{where_true, at_place}
use Rattle.pgo_heads.specs.Limits.{part_depth, state_depth}
use Rattle.pgo_heads.specs.LocalSets.{lacking}

abbrev pub unset_global : GlobalStart → Option (ℕ × Name)
unset_global g = where_true (is_unset state_depth g.start) (at_place g.declaration.name)

-- the same start at each identifier
abbrev pub is_unset_somewhere : Start → List Data → Bool
is_unset_somewhere s ids = list_any (λ id. is_unset part_depth s) ids

abbrev pub is_some_unset : List Defined → Tree → List Data → Bool
is_some_unset ds e ids = list_any (λ id. is_unset part_depth (argument_start ds e id)) ids

-- without `self` an expression has its value whatever the identifier is
abbrev pub is_closed_unset : List Defined → Tree → Bool
is_closed_unset ds e = if mentions self_name e then false else is_unset part_depth (start_of_value (closed_value ds e))

-- an expression has no value at some identifier, or too deep a one. Where there is no identifier it is judged by itself,
-- if `self` doesn't stand in it
abbrev pub is_value_unset : List Defined → Tree → List Data → Bool
is_value_unset ds e ids = if is_some_item ids then is_some_unset ds e ids else is_closed_unset ds e

abbrev pub is_unset_at : List Defined → Option Origin → List Data → Bool
is_unset_at ds None ids = is_unset_somewhere default_start ids
is_unset_at ds (Some (Equals e)) ids = is_value_unset ds e ids
is_unset_at ds (Some (In e)) ids = is_unset_somewhere (start_in ds e) ids

-- a local that has no value at some identifier, or too deep a one
abbrev pub unset_local : List Defined → Run → Declaration → Option (ℕ × Name)
unset_local ds r d = where_true (is_unset_at ds d.initial (run_ids r)) (at_place d.name)

-- a value parameter that has no value at some identifier, or too deep a one, at its argument's place
abbrev pub unset_argument : List Defined → Run → Name → Argument → Option (ℕ × Name)
unset_argument ds r x (arguments.Ref g f) = None
unset_argument ds r x (arguments.Value place e) = where_true (is_value_unset ds e (run_ids r)) (place, x)

abbrev pub unset_handed : List Defined → Run → Handed → Option (ℕ × Name)
unset_handed ds r h = unset_argument ds r h.parameter.name.name h.argument

abbrev pub unset_in_run : List Defined → Run → List (ℕ × Name)
unset_in_run ds r = filter_map (unset_local ds r) r.archetype.locals ++ filter_map (unset_handed ds r) r.handed

-- an initial value, a set or a value argument has no value, or what a variable starts with is too deep
abbrev pub values_unset : List Archetype → List Defined → List Run → List GlobalStart → List (ℕ × Name)
values_unset as' ds rs gs = filter_map unset_global gs ++ (lacking as' ds rs NoSet ++ flat_map (unset_in_run ds) rs)
