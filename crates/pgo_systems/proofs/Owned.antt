-- What is an instance's own is no global, where variables have names that differ.
use Rattle.std.proofs.Common.{◌≡◌, ℕ, Bool, true, false, ◌||◌, if◌then◌else◌, List, [], ◌∷◌, ◌++◌, map, Option, Some, None, refl, sym, ap, ◌∙◌, subst, inl, inr}
use Rattle.std.specs.List.{filter_map, flat_map, cons_option}
use Rattle.pgo_base.specs.Data.{Data}
use Rattle.pgo_base.specs.Lookup.{Name, same_name, find}
use Rattle.pgo_model.specs.Machine.{nth}
use Rattle.pgo_model.specs.Written.{pc, written}
use Rattle.pgo_syntax.specs.declared.bound.Instance.{Instance}
use Rattle.pgo_syntax.specs.declared.bound.Mapping.{Mapping}
use Rattle.pgo_syntax.specs.declared.bound.Target.TheVariants as targets
use Rattle.pgo_syntax.specs.declared.declaration.Declaration.{Declaration}
use Rattle.pgo_syntax.specs.declared.archetype.Extent.{Extent}
use Rattle.pgo_syntax.specs.declared.process.Argument.{Argument}
use Rattle.pgo_syntax.specs.declared.process.Argument.TheVariants as arguments
use Rattle.pgo_syntax.specs.declared.process.MappingClause.{MappingClause}
use Rattle.pgo_syntax.specs.declared.spec.Spec.{Spec}
use Rattle.pgo_bound.specs.Among.{IsAmong, among_left, among_map, among_flat_map, from_filter_map, mapped_some, turned}
use Rattle.pgo_bound.specs.BoundOf.{bound_of}
use Rattle.pgo_bound.specs.Instances.{instance_from}
use Rattle.pgo_bound.specs.Runs.{Handed, Run, archetype_named, run_with, run_of, runs_of, speaking, mapping_by, target_of, binding_of, bindings_of}
use Rattle.pgo_bound.specs.State.{AreDifferent, names_or_none, own_names, value_name, variables_of}
use Rattle.pgo_bound.specs.Values.{defs_of}
use Rattle.pgo_model.specs.Names.{is_among}
use Rattle.pgo_sections.specs.Code.{Place, Whole, Own}
use Rattle.pgo_meaning.specs.Parameters.{place_of, parameter_places, local_places, places_of}
use Rattle.pgo_systems.specs.Premises.{OwnsApart}
use Rattle.pgo_systems.proofs.Patches.{apart}

-- a place that is an instance's own is a written name of its process
abbrev IsOwnName : Name → List Name → Name → Type 0
IsOwnName p xs v = (z : Name) × IsAmong z xs × (v ≡ written p z)

local_own : (p : Name) (ds : List Declaration) (x v : Name) → find x (local_places p ds) ≡ Some (Own v) → IsOwnName p (map (λ d. d.name.name) ds) v
local_own p [] x v h = absurd (cc)
local_own p (d ∷ ds) x v h = go (same_name x d.name.name) h (local_own p ds x v)
  where
    own_is : Some (Own (written p d.name.name)) ≡ Some (Own v) → written p d.name.name ≡ v
    own_is e = ap (λ (o : Option Place). elim o [ None ↦ v | Some q ↦ elim q [ Whole z ↦ z | Own z ↦ z ] ]) e

    go : (b : Bool) → (if b then Some (Own (written p d.name.name)) else find x (local_places p ds)) ≡ Some (Own v) → (find x (local_places p ds) ≡ Some (Own v) → IsOwnName p (map (λ d. d.name.name) ds) v) → IsOwnName p (d.name.name ∷ map (λ d. d.name.name) ds) v
    go true e r = (d.name.name, inl refl, sym (own_is e))
    go false e r = let q = r e in (q.0, inr q.1, q.2)

module _ (s : Spec) (cs : List MappingClause) (p : Name) (ds : List Declaration) (x v : Name) where
  abbrev valued : Handed → Option Name
  valued h = value_name h.parameter.name.name h.argument

  abbrev names : List Handed → List Name
  names hs = filter_map valued hs ++ map (λ d. d.name.name) ds

  abbrev rest : List Handed → List (Name × Place)
  rest hs = parameter_places p (map (binding_of s cs) hs) ++ local_places p ds

  place_own : (hs : List Handed) → find x (parameter_places p (map (binding_of s cs) hs) ++ local_places p ds) ≡ Some (Own v) → IsOwnName p (filter_map valued hs ++ map (λ d. d.name.name) ds) v
  place_own [] e = local_own p ds x v e
  place_own (h ∷ hs) e = go h.argument e (place_own hs)
    where
      own_is : (z : Name) → Some (Own z) ≡ Some (Own v) → z ≡ v
      own_is z e = ap (λ (o : Option Place). elim o [ None ↦ v | Some q ↦ elim q [ Whole z ↦ z | Own z ↦ z ] ]) e

      by_value : (b : Bool) → (if b then Some (Own (written p h.parameter.name.name)) else find x (rest hs)) ≡ Some (Own v) → (find x (rest hs) ≡ Some (Own v) → IsOwnName p (names hs) v) → IsOwnName p (h.parameter.name.name ∷ names hs) v
      by_value true e r = (h.parameter.name.name, inl refl, sym (own_is (written p h.parameter.name.name) e))
      by_value false e r = let q = r e in (q.0, inr q.1, q.2)

      by_global : (g : Name) (b : Bool) → (if b then Some (Whole g) else find x (rest hs)) ≡ Some (Own v) → (find x (rest hs) ≡ Some (Own v) → IsOwnName p (names hs) v) → IsOwnName p (names hs) v
      by_global g true e r = absurd (cc)
      by_global g false e r = r e

      by_mapping : (g : Name) (ex : Extent) (m : Option Mapping) → find x (place_of p h.parameter.name.name (targets.Global g ex m) (parameter_places p (map (binding_of s cs) hs)) ++ local_places p ds) ≡ Some (Own v) → (find x (rest hs) ≡ Some (Own v) → IsOwnName p (names hs) v) → IsOwnName p (names hs) v
      by_mapping g ex None e r = by_global g (same_name x h.parameter.name.name) e r
      by_mapping g ex (Some m) e r = r e

      go : (a : Argument) → find x (place_of p h.parameter.name.name (target_of s cs h.number a) (parameter_places p (map (binding_of s cs) hs)) ++ local_places p ds) ≡ Some (Own v) → (find x (rest hs) ≡ Some (Own v) → IsOwnName p (names hs) v)
          → IsOwnName p (cons_option (value_name h.parameter.name.name a) (filter_map valued hs) ++ map (λ d. d.name.name) ds) v
      go (arguments.Value place t) e r = by_value (same_name x h.parameter.name.name) e r
      go (arguments.Ref g ex) e r = by_mapping g.name ex (mapping_by s ex (speaking h.number g.name cs)) e r

none_among : (v : Name) (xs : List Name) → ((x : Name) → IsAmong x xs → same_name v x ≡ false) → is_among v xs ≡ false
none_among v [] h = refl
none_among v (x ∷ xs) h = ap (λ b. b || is_among v xs) (h x (inl refl)) ∙ none_among v xs (λ y m. h y (inr m))

module _ (s : Spec) (consts : List (Name × Data)) (differ : AreDifferent (variables_of s)) where
  abbrev globals : List Name
  globals = map (λ d. d.name.name) s.globals

  abbrev owns : List Name
  owns = flat_map (λ p. map (written p.name.name) (own_names s p)) s.processes

  -- of a process that runs
  run_apart : (r : Run) → IsAmong r (runs_of s (defs_of s consts)) → (x v : Name) → find x (places_of r.process.name.name r.archetype (bindings_of s r)) ≡ Some (Own v) → is_among v globals ≡ false
  run_apart r m x v e =
      let p = from_filter_map (run_of s (defs_of s consts)) r s.processes m in
      let a = mapped_some (run_with (defs_of s consts) p.0) (archetype_named p.0.archetype.name s.archetypes) r p.2 in
      let at_run : find x (places_of p.0.name.name a.0 (bindings_of s (run_with (defs_of s consts) p.0 a.0))) ≡ Some (Own v) = subst (λ (z : Run). find x (places_of z.process.name.name z.archetype (bindings_of s z)) ≡ Some (Own v)) a.2 e in
      let own = place_own s p.0.clauses p.0.name.name a.0.locals x v (run_with (defs_of s consts) p.0 a.0).handed at_run in
      let named : IsAmong own.0 (own_names s p.0) = subst (λ o. IsAmong own.0 (names_or_none p.0 o)) (sym a.1) own.1 in
      let there : IsAmong v owns = subst (λ w. IsAmong w owns) (sym own.2) (among_flat_map (λ p. map (written p.name.name) (own_names s p)) p.0 (written p.0.name.name own.0) s.processes p.1 (among_map (written p.0.name.name) own.0 (own_names s p.0) named)) in
      none_among v globals (λ g k. turned g v (apart g v (globals ++ (pc ∷ [])) owns differ (among_left g globals (pc ∷ []) k) there))

  pub owns_apart : (k : ℕ) (i : Instance) → nth (bound_of s consts).instances k ≡ Some i → OwnsApart (bound_of s consts) i
  owns_apart k i at_k x v e =
      let r = instance_from s (runs_of s (defs_of s consts)) i k at_k in
      run_apart r.0 r.1 x v (subst (λ (z : Instance). find x (places_of z.process z.archetype z.bindings) ≡ Some (Own v)) r.2.2.1.1 e)
