-- What `pc` has in a state in which instances stand at labels can be written.
use Rattle.std.proofs.Common.{◌≡◌, ◌≤◌, ◌⊎◌, ℕ, Bool, true, false, if◌then◌else◌, IsTrue, List, [], ◌∷◌, ◌++◌, map, length, Some, inl, inr, refl, ap, sym, ◌∙◌, subst, arith, option_and_then}
use Rattle.std.proofs.lemmas.Bool.{and_parts, le-leb}
use Rattle.std.specs.List.Sorted.{IsStrictlySortedBy}
use Rattle.std.specs.Prelude.{◌&&◌}
use Rattle.std.specs.declared.cmp.Ordering.TheVariants.{Less, Equal}
use Rattle.std.proofs.lemmas.Option.{same_Some}
use Rattle.std.proofs.lemmas.List.{length-map}
use Rattle.pgo_base.proofs.Keyed.{pairs_back}
use Rattle.pgo_base.specs.Data.{Data, string, function, Pairs, graph, keys}
use Rattle.pgo_base.specs.Exact.{data_itself}
use Rattle.pgo_base.specs.Lookup.{Name, Vars, same_name, find}
use Rattle.pgo_base.specs.Order.{data_cmp}
use Rattle.pgo_base.specs.Sets.{IsSorted}
use Rattle.pgo_model.specs.BundleParts.{is_string_byte, all_string_bytes}
use Rattle.pgo_model.specs.Machine.{nth}
use Rattle.pgo_model.specs.Names.{same_name-is}
use Rattle.pgo_model.specs.Operators.{apply, lookup, most_members, same_data}
use Rattle.pgo_model.specs.State.{AllValues}
use Rattle.pgo_model.specs.Value.{IsValue}
use Rattle.pgo_model.specs.Written.{pc, done, written}
use Rattle.pgo_syntax.specs.Statement.{labeled}
use Rattle.pgo_syntax.specs.declared.bound.Bound.{Bound}
use Rattle.pgo_syntax.specs.declared.bound.Instance.{Instance}
use Rattle.pgo_syntax.specs.declared.spec.Spec.{Spec}
use Rattle.pgo_bound.specs.Among.{IsAmong, all_at, among_map, among_nth, found_among, from_map, nth_among}
use Rattle.pgo_bound.specs.BoundOf.{bound_of}
use Rattle.pgo_bound.specs.Lookups.{same_equal, same_of}
use Rattle.pgo_bound.specs.Sound.{IsLabel, labels_among}
use Rattle.pgo_bound.specs.State.{AreDifferent, IsState, id_of, identifiers, variables_of}
use Rattle.pgo_systems.specs.Premises.{AllAtLabels}
use Rattle.pgo_values.proofs.Lists.{length_keys, of_ordered, ordered_few}
use Rattle.pgo_agrees.specs.Accepted.{ArchetypeOfText, IsOfText, LabelOfText, ProcessOfText}
use Rattle.pgo_agrees.proofs.Instances.{runs_as}
use Rattle.pgo_run_values.specs.Spellable.{IsSpellable, PairsSpellable, spellable}
use Rattle.pgo_run_values.proofs.Bytes.{name_bytes}
use Rattle.pgo_values.proofs.Operators.{pairs_ordered}

-- ---- labels

bytes_joined : (x y : List ℕ) → all_string_bytes x ≡ true → all_string_bytes y ≡ true → all_string_bytes (x ++ y) ≡ true
bytes_joined [] y h g = g
bytes_joined (b ∷ bs) y h g = let p = and_parts (is_string_byte b) (all_string_bytes bs) h in ap (λ t. t && all_string_bytes (bs ++ y)) p.0 ∙ bytes_joined bs y p.1 g

written_bytes : (p l : Name) → all_string_bytes p ≡ true → all_string_bytes l ≡ true → all_string_bytes (written p l) ≡ true
written_bytes p l h g = bytes_joined (p ++ (95 ∷ [])) l (bytes_joined p (95 ∷ []) h refl) g

-- the labels of an instance's process
pub label_bytes : (s : Spec) (consts : List (Name × Data)) → IsOfText s → (k : ℕ) (i : Instance) → nth (bound_of s consts).instances k ≡ Some i → (l : Name) → IsLabel i l → all_string_bytes l ≡ true
label_bytes s consts text k i at_k l =
    let r = runs_as s consts k i at_k in
    subst (λ (z : Instance). IsLabel z l → all_string_bytes l ≡ true) (sym r.is) (λ h.
    let p : ProcessOfText r.process = all_at ProcessOfText r.process s.processes text.processes r.among in
    let a : ArchetypeOfText r.archetype = all_at ArchetypeOfText r.archetype s.archetypes text.archetypes r.declared in
    let x = all_at LabelOfText h.1 (labels_among (labeled r.archetype.body)) a.3 (among_nth h.1 (labels_among (labeled r.archetype.body)) h.0 h.2) in
    subst (λ y. all_string_bytes y ≡ true) (sym h.3) (written_bytes r.process.name.name h.1 (name_bytes r.process.name.name p.0) (name_bytes h.1 x)))

-- ---- functions

-- what is found at a key is what stands there
looked : (q : Data × Data) (ps : List (Data × Data)) → IsSorted (keys ps) → IsAmong q ps → lookup q.0 ps ≡ Some q.1
unfolding IsStrictlySortedBy
looked q [] s m = absurd m
looked q (p ∷ ps) s (inl e) = ap (λ b. if b then Some p.1 else lookup q.0 ps) (same_equal q.0 p.0 (ap (λ z. z.0) e)) ∙ ap (λ z. Some z.1) (sym e)
looked q (p ∷ ps) s (inr m) = go (same_data q.0 p.0) refl (looked q ps s.1 m)
  where
    apart : q.0 ≡ p.0 → ⊥
    apart e =
        let k : data_cmp p.0 q.0 ≡ Less = all_at (λ y. data_cmp p.0 y ≡ Less) q.0 (keys ps) s.0 (among_map (λ z. z.0) q ps m) in
        let i : data_cmp p.0 p.0 ≡ Equal = data_itself p.0 in
        let j : data_cmp p.0 p.0 ≡ Less = ap (data_cmp p.0) (sym e) ∙ k in cc

    go : (b : Bool) → same_data q.0 p.0 ≡ b → lookup q.0 ps ≡ Some q.1 → (if b then Some p.1 else lookup q.0 ps) ≡ Some q.1
    go true e r = absurd (apart (same_of q.0 p.0 e))
    go false e r = r

value_found : (x : Name) (v : Data) (t : Vars) → AllValues t → find x t ≡ Some v → IsValue v
value_found x v [] h e = absurd (cc)
value_found x v (p ∷ t) h e = go (same_name x p.0) e (value_found x v t h.1)
  where
    go : (b : Bool) → (if b then Some p.1 else find x t) ≡ Some v → (find x t ≡ Some v → IsValue v) → IsValue v
    go true k more = subst IsValue (same_Some p.1 v k) h.0
    go false k more = more k

-- ---- `pc`
module _ (b : Bound) (labels : (k : ℕ) (i : Instance) → nth b.instances k ≡ Some i → (l : Name) → IsLabel i l → all_string_bytes l ≡ true) (ids : (k : ℕ) (i : Instance) → nth b.instances k ≡ Some i → IsSpellable (id_of i)) (few : length b.instances ≤ 64) (t : Vars) (is : IsState b t) (at : AllAtLabels b t) (differ : AreDifferent (variables_of b.spec)) where
  abbrev ps : Pairs
  ps = is.places.0

  sorted : IsSorted (keys (graph ps))
  sorted = (value_found pc (function ps) t is.values is.places.1).1

  one_pair : (q : Data × Data) → IsAmong q (graph ps) → IsSpellable q.0 × IsSpellable q.1
  one_pair q m =
      let key : IsAmong q.0 (identifiers b) = subst (IsAmong q.0) is.places.2 (among_map (λ z. z.0) q (graph ps) m) in
      let from = from_map id_of q.0 b.instances (of_ordered q.0 (map id_of b.instances) key) in
      let n = nth_among from.0 b.instances from.1 in
      let place = at n.0 from.0 n.1 in
      let here : lookup (id_of from.0) (graph ps) ≡ Some (string place.0) = ap (option_and_then (λ f. apply f (id_of from.0))) (sym is.places.1) ∙ place.1 in
      let value : q.1 ≡ string place.0 = same_Some q.1 (string place.0) (sym (looked q (graph ps) sorted m) ∙ ap (λ k. lookup k (graph ps)) from.2 ∙ here) in
      (subst IsSpellable (sym from.2) (ids n.0 from.0 n.1), subst IsSpellable (sym value) (label n.0 from.0 n.1 place.0 place.2))
    where
      label : (k : ℕ) (i : Instance) → nth b.instances k ≡ Some i → (l : Name) → (l ≡ done) ⊎ IsLabel i l → IsTrue (all_string_bytes l)
      label k i at_k l (inl e) = subst (λ x. all_string_bytes x ≡ true) (sym e) refl
      label k i at_k l (inr h) = labels k i at_k l h

  pc_spellable : IsSpellable (function ps)
  pc_spellable = (
    subst PairsSpellable (pairs_back ps) (pairs_ordered spellable (graph ps) one_pair),
    sorted,
    le-leb (length (graph ps)) most_members (
        let a = length_keys (graph ps) in
        let c : length (keys (graph ps)) ≡ length (identifiers b) = ap length is.places.2 in
        let d = ordered_few (map id_of b.instances) in
        let e = length-map b.instances id_of in
        omega (arith, a, c, d, e, few)),
  )

  pub places_spellable : (p : Name × Data) → IsAmong p t → same_name p.0 pc ≡ true → IsSpellable p.1
  places_spellable p m e =
      let found : find p.0 t ≡ Some p.1 = found_among p.0 p.1 t (subst AreDifferent (sym is.variables) differ) m in
      let here : find pc t ≡ Some p.1 = ap (λ x. find x t) (sym (same_name-is p.0 pc e)) ∙ found in
      subst IsSpellable (same_Some (function ps) p.1 (sym is.places.1 ∙ here)) pc_spellable
