-- Why a specification can't be bound: the rules in their order, each with the first of what it finds.
use Rattle.std.specs.Prelude.{List, Option, option_map}
use Rattle.pgo_base.specs.Data.{Data}
use Rattle.pgo_base.specs.ValueCode.{value_from}
use Rattle.pgo_base.specs.Lookup.{Name}
use Rattle.pgo_base.specs.declared.module.Defined.{Defined}
use Rattle.pgo_syntax.specs.declared.archetype.Archetype.{Archetype}
use Rattle.pgo_syntax.specs.declared.spec.Spec.{Spec}
use Rattle.pgo_heads.specs.declared.errors.BindError.{BindError}
use Rattle.pgo_heads.specs.declared.errors.BindError.TheVariants as errors
use Rattle.pgo_bound.specs.Values.{defs_of}
use Rattle.pgo_bound.specs.Runs.{Run, runs_of}
use Rattle.pgo_bound.specs.BoundOf.{GlobalStart, globals_of}
pub use Rattle.pgo_heads.specs.Findings.{where_true, at_place, first, earlier, first_placed, or_that}
pub use Rattle.pgo_heads.specs.Limits.{part_depth, state_depth, more_than}
pub use Rattle.pgo_heads.specs.LocalSets.{is_run, archetypes_run, local_set, lacks, lacks_in, lacking_local, lacking_in, lacking}
pub use Rattle.pgo_heads.specs.ConstMissing.{missing}
pub use Rattle.pgo_heads.specs.ConstUnknown.{unknown}
pub use Rattle.pgo_heads.specs.BadMapping.{same_extent, clause_extent, is_function, begins_as_function, is_by_element, has_no_elements, names_no_elements, differs, is_bad_ref, is_bad_argument, is_bad_handed, bad_arguments, is_ref, is_ref_to, has_ref_to, has_ref_at, has_number, bad_clause, bad_clauses, bad_places, bad_mappings}
pub use Rattle.pgo_heads.specs.SameId.{put_in_order, ordered, repeated_behind, repeated, ids_shared}
pub use Rattle.pgo_heads.specs.IdsNoValue.{is_some_deep, has_no_ids, ids_unknown}
pub use Rattle.pgo_heads.specs.TooManyInstances.{instances_past}
pub use Rattle.pgo_heads.specs.TooManyResources.{resources_past}
pub use Rattle.pgo_heads.specs.InitNoValue.{unset_global, is_unset_somewhere, is_some_unset, is_closed_unset, is_value_unset, is_unset_at, unset_local, unset_argument, unset_handed, unset_in_run, values_unset}
pub use Rattle.pgo_heads.specs.InitEmpty.{empty_global, sets_empty}

-- rules 1 and 2
abbrev pub constants_refused : Spec → List (Name × Data) → Option BindError
constants_refused s consts =
    or_that (option_map errors.ConstMissing (first (missing s.constants consts)))
    (option_map errors.ConstUnknown (first (unknown s.constants consts)))

-- rules 4 to 6
abbrev pub ids_refused : List Run → Option BindError
ids_refused rs =
    or_that (option_map (λ id. errors.SameId (value_from id)) (first (ids_shared rs)))
    (or_that (option_map errors.IdsNoValue (first (ids_unknown rs)))
    (option_map errors.TooManyInstances (first (instances_past rs))))

-- rules 7 to 9
abbrev pub starts_refused : List Archetype → List Defined → List Run → List GlobalStart → Option BindError
starts_refused as' ds rs gs =
    or_that (option_map errors.TooManyResources (first (resources_past gs)))
    (or_that (option_map (λ p. errors.InitNoValue p.1) (first_placed (values_unset as' ds rs gs)))
    (option_map (λ p. errors.InitEmpty p.1) (first_placed (sets_empty as' ds rs gs))))

-- rules 3 to 9
abbrev pub heads_refused : List Archetype → List Defined → List Run → List GlobalStart → Option BindError
heads_refused as' ds rs gs =
    or_that (option_map (λ p. errors.BadMapping p.0 p.1) (first (bad_mappings gs rs))) (or_that (ids_refused rs) (starts_refused as' ds rs gs))

abbrev pub refusal_with : Spec → List (Name × Data) → List Defined → List Run → List GlobalStart → Option BindError
refusal_with s consts ds rs gs = or_that (constants_refused s consts) (heads_refused s.archetypes ds rs gs)

abbrev pub refusal_by : Spec → List (Name × Data) → List Defined → List Run → Option BindError
refusal_by s consts ds rs = refusal_with s consts ds rs (globals_of s ds rs)

-- the first rule in the order of the numbers that has a finding, at its first place
abbrev pub bind_refusal : Spec → List (Name × Data) → Option BindError
bind_refusal s consts = let ds = defs_of s consts in refusal_by s consts ds (runs_of s ds)
