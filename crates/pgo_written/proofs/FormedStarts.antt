-- Where nothing refuses the binding, no identifiers and no local variable's set are `Nat`, `Int` or `STRING`.
use Rattle.std.proofs.Common.{◌≡◌, false, inl, inr, List, [], ◌∷◌, ◌++◌, filter, Option, Some, None, option_map, refl, ap}
use Rattle.std.specs.List.{AllByRecursion, filter_map, flat_map}
use Rattle.std.proofs.lemmas.Bool.{false_from_ne_true}
use Rattle.pgo_base.specs.Data.{Data}
use Rattle.pgo_base.specs.Lookup.{Name, same_name}
use Rattle.pgo_base.specs.Tree.{word}
use Rattle.pgo_base.specs.declared.expr.Word.TheVariants as words
use Rattle.pgo_base.specs.declared.module.Defined.{Defined}
use Rattle.pgo_model.specs.Names.{same_name-self}
use Rattle.pgo_expr_write.specs.WellFormed.{IsWellFormed}
use Rattle.pgo_syntax.specs.declared.archetype.Archetype.{Archetype}
use Rattle.pgo_syntax.specs.declared.binding.Origin.{Origin}
use Rattle.pgo_syntax.specs.declared.binding.Origin.TheVariants.{Equals, In}
use Rattle.pgo_syntax.specs.declared.declaration.Declaration.{Declaration}
use Rattle.pgo_syntax.specs.declared.process.Process.{Process}
use Rattle.pgo_syntax.specs.declared.spec.Spec.{Spec}
use Rattle.pgo_bound.specs.Among.{IsAmong, among_filter, among_filter_map, none_left, none_right, none_flat_map, none_filter_map, empty_map, empty_none, some_any}
use Rattle.pgo_bound.specs.BoundOf.{globals_of}
use Rattle.pgo_bound.specs.Instances.{archetype_among}
use Rattle.pgo_bound.specs.Runs.{Run, archetype_named, ids_of, run_with, run_of, runs_of}
use Rattle.pgo_bound.specs.Values.{defs_of}
use Rattle.pgo_heads.specs.declared.findings.Lack.TheVariants.{NoSet}
use Rattle.pgo_heads.specs.Refusals.{constants_refused, heads_refused, bind_refusal, at_place, has_no_ids, unset_global, unset_in_run, is_run, archetypes_run, local_set, lacks_in, lacking_local, lacking_in, lacking}
use Rattle.pgo_pluscal.specs.PlusCalOf.{ids_tree}
use Rattle.pgo_bind.proofs.Passing.{none_next}
use Rattle.pgo_bind.proofs.Unrefused.{where_false, Unrefused, unrefused}
use Rattle.pgo_written.specs.FormedSpec.{StartFormed, IfStartFormed, DeclarationFormed}
use Rattle.pgo_written.proofs.FormedModules.{StartWell}
use Rattle.pgo_written.proofs.FormedTrees.{well_formed}

-- ---- sets with a value

ids_well : (ds : List Defined) (o : Origin) → StartFormed o → has_no_ids (ids_of ds o) ≡ false → IsWellFormed (ids_tree o)
ids_well ds (Equals e) f h = (well_formed e f, tt)
ids_well ds (In e) (inr f) h = well_formed e f
ids_well ds (In (word words.BooleanSet)) (inl w) h = refl
ids_well ds (In (word words.Nat)) (inl w) h = absurd (cc)
ids_well ds (In (word words.Int)) (inl w) h = absurd (cc)
ids_well ds (In (word words.StringSet)) (inl w) h = absurd (cc)
ids_well ds (In e) (inl w) h = absurd (cc)

start_well : (ds : List Defined) (o : Option Origin) → IfStartFormed o → lacks_in NoSet (local_set ds o) ≡ false → StartWell o
start_well ds None f h = tt
start_well ds (Some (Equals e)) f h = well_formed e f
start_well ds (Some (In e)) (inr f) h = well_formed e f
start_well ds (Some (In (word words.BooleanSet))) (inl w) h = refl
start_well ds (Some (In (word words.Nat))) (inl w) h = absurd (cc)
start_well ds (Some (In (word words.Int))) (inl w) h = absurd (cc)
start_well ds (Some (In (word words.StringSet))) (inl w) h = absurd (cc)
start_well ds (Some (In e)) (inl w) h = absurd (cc)

-- ---- what is refused

module _ (s : Spec) (consts : List (Name × Data)) (h : bind_refusal s consts ≡ None) (p : Process) (among : IsAmong p s.processes) (a : Archetype) (named : archetype_named p.archetype.name s.archetypes ≡ Some a) where
  passed : Unrefused s.archetypes (defs_of s consts) (runs_of s (defs_of s consts)) (globals_of s (defs_of s consts) (runs_of s (defs_of s consts)))
  passed =
      let rs = runs_of s (defs_of s consts) in
      let gs = globals_of s (defs_of s consts) rs in
      unrefused s.archetypes (defs_of s consts) rs gs (none_next (constants_refused s consts) (heads_refused s.archetypes (defs_of s consts) rs gs) h)

  run_there : IsAmong (run_with (defs_of s consts) p a) (runs_of s (defs_of s consts))
  run_there = among_filter_map (run_of s (defs_of s consts)) p (run_with (defs_of s consts) p a) s.processes among (ap (option_map (run_with (defs_of s consts) p)) named)

  pub ids_known : StartFormed p.ids → IsWellFormed (ids_tree p.ids)
  ids_known f =
      let rs = runs_of s (defs_of s consts) in
      let none = empty_map (λ (r : Run). r.process.name.name) (filter (λ (r : Run). has_no_ids r.ids) rs) passed.known in
      ids_well (defs_of s consts) p.ids f (false_from_ne_true (has_no_ids (ids_of (defs_of s consts) p.ids)) (λ t. empty_none (run_with (defs_of s consts) p a) (filter (λ (r : Run). has_no_ids r.ids) rs) none (among_filter (λ (r : Run). has_no_ids r.ids) (run_with (defs_of s consts) p a) rs run_there t)))

  none_lacks : lacking_in (defs_of s consts) NoSet a ≡ []
  none_lacks =
      let rs = runs_of s (defs_of s consts) in
      let gs = globals_of s (defs_of s consts) rs in
      let lack = lacking s.archetypes (defs_of s consts) rs NoSet in
      let runs = flat_map (unset_in_run (defs_of s consts)) rs in
      let none = none_left lack runs (none_right (filter_map unset_global gs) (lack ++ runs) passed.unset) in
      none_flat_map (lacking_in (defs_of s consts) NoSet) a (archetypes_run s.archetypes rs) none
      (among_filter (is_run rs) a s.archetypes (archetype_among p.archetype.name s.archetypes a named)
      (some_any (λ (r : Run). same_name a.name.name r.archetype.name.name) (run_with (defs_of s consts) p a) rs run_there (same_name-self a.name.name)))

  pub locals_known : AllByRecursion DeclarationFormed a.locals → AllByRecursion (λ d. StartWell d.initial) a.locals
  locals_known f = each a.locals f (λ d m. none_filter_map (lacking_local (defs_of s consts) NoSet) d a.locals none_lacks m)
    where
      each : (xs : List Declaration) → AllByRecursion DeclarationFormed xs → ((d : Declaration) → IsAmong d xs → lacking_local (defs_of s consts) NoSet d ≡ None) → AllByRecursion (λ d. StartWell d.initial) xs
      each [] f k = tt
      each (d ∷ xs) f k =
          (start_well (defs_of s consts) d.initial f.0.1 (where_false (lacks_in NoSet (local_set (defs_of s consts) d.initial)) (at_place d.name) (k d (inl refl))), each xs f.1 (λ e m. k e (inr m)))
