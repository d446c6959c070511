-- The entry that a worker makes leads to the state to which the section leads.
use Rattle.std.proofs.Common.{◌≡◌, ℕ, suc, Bool, true, false, List, [], ◌∷◌, ◌++◌, map, Option, Some, None, ◌⊎◌, inl, inr, refl, sym, ap, ◌∙◌, subst, arith, cond, option_and_then}
use Rattle.std.specs.Prelude.{if◌then◌else◌, filter, is_some, nat_eq, nat_lt, ◌||◌}
use Rattle.std.specs.List.{flat_map}
use Rattle.pgo_base.specs.Data.{Data, graph, keys}
use Rattle.pgo_base.specs.Lookup.{Name, Vars, same_name, find}
use Rattle.pgo_base.specs.Sets.{IsIn, in_order, in-in_order, sorted-in_order}
use Rattle.pgo_model.specs.Core.{Reaches}
use Rattle.pgo_model.specs.Log.{Change, Effect, after_changes, content, own_names}
use Rattle.pgo_model.specs.Machine.{among, nth}
use Rattle.pgo_model.specs.MachineAccounts.{equal_or}
use Rattle.pgo_model.specs.Names.{same_name-self, same_name-is, same_name-not, is_among}
use Rattle.pgo_model.specs.Operators.{apply, contains, same_data}
use Rattle.pgo_model.specs.Options.{on}
use Rattle.pgo_model.specs.Outcome.{Next}
use Rattle.pgo_model.specs.System.{System, Words, Resource, Owned, ids_of}
use Rattle.pgo_model.specs.SystemState.{IsSystemState}
use Rattle.pgo_model.specs.Variables.{IsFunctionOn}
use Rattle.pgo_model.specs.Written.{pc, written}
use Rattle.pgo_syntax.specs.declared.bound.Bound.{Bound}
use Rattle.pgo_syntax.specs.declared.bound.Instance.{Instance}
use Rattle.pgo_syntax.specs.declared.process.Process.{Process}
use Rattle.pgo_bound.specs.Among.{IsAmong, among_nth, nth_among, from_map, from_flat_map, among_append, among_flat_map, among_map}
use Rattle.pgo_bound.specs.State as bound
use Rattle.pgo_bound.specs.State.{id_of, kind_in, variables_of}
use Rattle.pgo_meaning.specs.Attempt.{SectTry}
use Rattle.pgo_meaning.specs.Sect.{context_of, is_by_element}
use Rattle.pgo_meaning.specs.System.{member_of, owned, owned_by, resource_of, system_of}
use Rattle.pgo_sections.specs.Context.{part_at}
use Rattle.pgo_workers.specs.Walk as walks
use Rattle.pgo_workers.specs.Walk.{Walk, Goes, Within, visits, ending, final, taken_after}
use Rattle.pgo_workers.specs.View.{Hold, EachHold, Once, World, changed, resources_of}
use Rattle.pgo_workers.specs.Worker.{changes_of}
use Rattle.pgo_workers.specs.Sentences.{IsOwn, changes_at}
use Rattle.pgo_workers.specs.Worlds as worlds
use Rattle.pgo_workers.specs.Worlds.{Layout, layout_of, effect_of, names_at, names_of, own_at, own_in, or_nothing, world_of, IsLayout, HasAll}
use Rattle.pgo_workers.proofs.BoundLayout.{layout_sound, state_has}
use Rattle.pgo_workers.proofs.Differences.{made_has, made_value, made_else, made_untouched}
use Rattle.pgo_workers.proofs.EntryComponents.{is_of, own_patched}
use Rattle.pgo_workers.proofs.LayoutChanges.{first, whose, IsShared, IsOne, Whose, own_name_here, own_name_behind}
use Rattle.pgo_workers.proofs.MadeEntries.{renews}
use Rattle.pgo_workers.proofs.Patched.{after_is, patched_names}
use Rattle.pgo_sections.proofs.Domains.{same_of, domains_kept}
use Rattle.pgo_sections.specs.Domains.{own, elements}
use Rattle.pgo_meaning.proofs.Ends.{end_at}
use Rattle.pgo_meaning.proofs.SystemStates.{states_same}
use Rattle.pgo_accesses.specs.Programs.{tree_with, world_at}
use Rattle.pgo_accesses.specs.Runnable.{Runnable}
use Rattle.pgo_accesses.proofs.Extensional.{OfParts, OfOthers, after_keeps, after_other, function_there, function_same, vars_same}
use Rattle.pgo_accesses.proofs.GoodStates as good_states
use Rattle.pgo_accesses.proofs.GoodStates.{among_true, some_there}
use Rattle.pgo_accesses.proofs.Leads.{Leads, leads}
use Rattle.pgo_accesses.proofs.Programs.{own_start}
use Rattle.pgo_accesses.proofs.Related.{IsElements, MayChange}
use Rattle.pgo_accesses.proofs.Within.{within_reach, reaches_resource}
use Rattle.pgo_bound.specs.declared.kinds.Kind.{Kind as ResourceKind}
use Rattle.pgo_bound.specs.declared.kinds.Kind.TheVariants.{Unbound, AsWhole, ByElement}
use Rattle.pgo_bound.specs.Declares.{value_in}
use Rattle.pgo_accesses.proofs.Taken.{holds_of, changes_are, held_are, each_held, held_at, taken_once, taken_from, taken_to, untouched, visits_in, ends_in}

-- ---- the entry

module _ (b : Bound) (R : Runnable b) (s : Vars) (good : IsSystemState (system_of b) s) (d : Words) (k : ℕ) (o : walks.Own) (ps : List Data) (E : Leads b R s good d k o ps)
    (goes : ending (tree_with b d k (own_in (layout_of (system_of b)) s k)) (worlds.value_in (layout_of (system_of b)) s) ≡ Goes o ps) where
  abbrev y : System
  y = system_of b

  abbrev L : Layout
  L = layout_of (system_of b)

  abbrev W : World Vars Effect
  W = world_of (layout_of (system_of b))

  abbrev w : Walk
  w = tree_with b d k (own_in L s k)

  abbrev f : ℕ → Data
  f = worlds.value_in L s

  abbrev h : ℕ → Data
  h = final (tree_with b d k (own_in L s k)) f

  abbrev taken : List ℕ
  taken = taken_after (visits (tree_with b d k (own_in L s k)) f) []

  abbrev hs : List Hold
  hs = holds_of f h taken

  abbrev made : Effect
  made = effect_of L k (own_in L s k) o (changes_of hs) ps

  abbrev t : Vars
  t = E.end

  abbrev u : Vars
  u = W.patched s made

  layout : IsLayout L
  layout = layout_sound b R.sound R.differ

  has : HasAll L s
  has = state_has b R.sound s good

  in_reach : Within (Reaches y k) (IsOwn W k) w
  in_reach = within_reach b R d k (own_in L s k) (Rattle.pgo_workers.proofs.MadeEntries.own_is L k s)

  names : IsOwn W k o
  names = ends_in (Reaches y k) (IsOwn W k) w f o ps in_reach goes

  once : Once (resources_of hs)
  once = subst Once (sym (held_are f h taken)) (taken_once (visits w f) [] tt)

  visited : (r : ℕ) → among r taken ≡ true → among r (visits w f) ≡ true
  visited r m = go (taken_from r (visits w f) [] m)
    where
      go : (among r (visits w f) ≡ true) ⊎ (among r [] ≡ true) → among r (visits w f) ≡ true
      go (inl m) = m
      go (inr m) = absurd (let z : false ≡ true = m in grind (arith, z))

  are : EachHold (λ h. W.is_resource h.resource ≡ true) hs
  are = each_held (λ h. W.is_resource h.resource ≡ true) f h taken (λ r m. reaches_resource b k r (visits_in (Reaches y k) (IsOwn W k) w f in_reach r (visited r m)))

  bases : EachHold (λ h. W.value s h.resource ≡ h.content.base) hs
  bases = each_held (λ h. W.value s h.resource ≡ h.content.base) f h taken (λ r m. refl)

  numbers : (n : ℕ) (r : Resource) → nth y.resources n ≡ Some r → r.number ≡ n
  numbers n r at =
      let q = from_map resource_of r b.resources (among_nth r y.resources n at) in
      let m = nth_among q.0 b.resources q.1 in
      go n r at
    where
      go : (n : ℕ) (r : Resource) → nth y.resources n ≡ Some r → r.number ≡ n
      go n r at =
          let a = Rattle.pgo_workers.proofs.LayoutChanges.nth_there b.resources n (sym (ap (nat_lt n) (good_states.map_length resource_of b.resources)) ∙ Rattle.pgo_accesses.proofs.Within.there_below y.resources n r at) in
          let same : resource_of a.0 ≡ r = (let z : Some (resource_of a.0) ≡ Some r = sym (Rattle.pgo_bound.specs.Among.nth_map resource_of n b.resources a.0 a.1) ∙ at in cc) in
          ap (λ (x : Resource). x.number) (sym same) ∙ R.sound.numbered.resource_numbers n a.0 a.1

  all_there : HasAll L u
  all_there = made_has y layout numbers k s (own_in L s k) o hs ps has refl names once are

  is_of_k : W.is_of k made ≡ true
  is_of_k = is_of L layout k (own_in L s k) o hs ps (Rattle.pgo_workers.proofs.MadeEntries.own_is L k s) names once are

  -- ---- components

  values_same : (r : ℕ) → W.is_resource r ≡ true → W.value t r ≡ W.value u r
  values_same r is = E.values r is ∙ sym (made_value y layout numbers k s (own_in L s k) o hs ps has refl names once are r is ∙ go (among r taken) refl)
    where
      go : (c : Bool) → among r taken ≡ c → changed (W.changes made) r (f r) ≡ h r
      go true m = held_at (λ x. changed (W.changes made) x.resource x.content.base ≡ x.content.current) f h taken (renews L k (own_in L s k) o hs ps once) r m
      go false m =
          made_untouched y layout numbers k s (own_in L s k) o hs ps has refl names once are r (f r) (ap (among r) (held_are f h taken) ∙ m)
          ∙ sym (untouched w f r (not_visited (among r (visits w f)) refl))
        where
          not_visited : (c : Bool) → among r (visits w f) ≡ c → c ≡ false
          not_visited false e = refl
          not_visited true e = absurd (let z : true ≡ false = sym (taken_to r (visits w f) [] e) ∙ m in grind (arith, z))

  own_u : own_in L u k ≡ o
  own_u = own_patched L layout k s (own_in L s k) o hs ps has names once are refl bases

  i : Instance
  i = E.instance

  id : Data
  id = id_of E.instance

  at_id : nth L.ids k ≡ Some (id_of E.instance)
  at_id = good_states.at_id b R k E.instance E.at s good E.words

  named_k : (x : Name) → is_among x (names_of L k) ≡ true → is_among x (pc ∷ own_names (id_of E.instance) L.own) ≡ true
  named_k x n = sym (ap (λ o. is_among x (names_at L o)) at_id) ∙ n

  own_find : (v : Vars) (j : ℕ) (a : Data) → nth L.ids j ≡ Some a → (x : Name) → is_among x (names_of L j) ≡ true → find x (own_in L v j) ≡ Some (or_nothing (part_at x a v))
  own_find v j a at x n =
      ap (λ o. find x (on [] o (λ z. own_at j z (names_at L (Some z)) v))) at
      ∙ good_states.find_own j a (pc ∷ own_names a L.own) v x (sym (ap (λ o. is_among x (names_at L o)) at) ∙ n)

  some_value : (a b : Data) → Some a ≡ Some b → a ≡ b
  some_value a b e = cc

  -- the same own components, each of which is there
  parts_equal : (v v' : Vars) (j : ℕ) (a : Data) → nth L.ids j ≡ Some a → own_in L v j ≡ own_in L v' j → (x : Name) → is_among x (names_of L j) ≡ true → is_some (part_at x a v) ≡ true → is_some (part_at x a v') ≡ true
      → part_at x a v ≡ part_at x a v'
  parts_equal v v' j a at same x n there there' =
      some_there (part_at x a v) there ∙ sym (own_find v j a at x n) ∙ ap (find x) same ∙ own_find v' j a at x n ∙ sym (some_there (part_at x a v') there')

  part_of_k : (x : Name) → is_among x (names_of L k) ≡ true → part_at x (id_of E.instance) t ≡ part_at x (id_of E.instance) u
  part_of_k x n =
      parts_equal t u k (id_of E.instance) at_id (E.own ∙ sym own_u) x n
      (ap is_some (E.left.parts x (or_nothing (part_at x (id_of E.instance) s)) (good_states.part_of b R k E.instance E.at s good E.words x (named_k x n))))
      (all_there.own k (id_of E.instance) x at_id n)

  global_not_own : (x : Name) (a : Data) → is_among x (pc ∷ own_names a L.own) ≡ true → is_among x (good_states.globals b R) ≡ false
  global_not_own x a n = go (same_name x pc) refl n
    where
      go : (c : Bool) → same_name x pc ≡ c → (c || is_among x (own_names a L.own)) ≡ true → is_among x (good_states.globals b R) ≡ false
      go true e n = ap (λ z. is_among z (good_states.globals b R)) (same_name-is x pc e) ∙ good_states.place_apart b R
      go false e n = let q = good_states.named_from x a L.own n in ap (λ z. is_among z (good_states.globals b R)) q.2 ∙ good_states.own_apart b R q.0 q.1

  part_else : (j : ℕ) (a : Data) → nth L.ids j ≡ Some a → (j ≡ k → ⊥) → (x : Name) → is_among x (names_of L j) ≡ true → part_at x a t ≡ part_at x a u
  part_else j a at ne x n = of_t ∙ sym of_u
    where
      of_u : part_at x a u ≡ part_at x a s
      of_u = parts_equal u s j a at (made_else y layout numbers k s (own_in L s k) o hs ps has refl names once are j ne) x n (all_there.own j a x at n) (has.own j a x at n)

      other : same_data a (id_of E.instance) ≡ false
      other = go (same_data a (id_of E.instance)) refl
        where
          go : (c : Bool) → same_data a (id_of E.instance) ≡ c → c ≡ false
          go true e = absurd (ne (layout.identifiers_differ j k a at (at_id ∙ ap Some (sym (same_of a (id_of E.instance) e)))))
          go false e = refl

      not_global : is_among x (good_states.globals b R) ≡ false
      not_global = global_not_own x a (sym (ap (λ o. is_among x (names_at L o)) at) ∙ n)

      may_not : is_among x (pc ∷ own_names (id_of E.instance) L.own) ≡ false → MayChange (context_of b E.instance s) y.resources (own_start b R s good E.words k E.instance E.at) E.words x → ⊥
      may_not m (inl mine) = let z : true ≡ false = sym (own_name_behind x pc (own_names (id_of E.instance) L.own) (R.owns k E.instance x E.at mine.1)) ∙ m in grind (arith, z)
      may_not m (inr (inl whole)) =
          let z : true ≡ false = sym (among_true x (good_states.globals b R) (good_states.declared_at b R (x, None) whole.1.0 whole.1.1)) ∙ not_global in grind (arith, z)
      may_not m (inr (inr element)) = let z : true ≡ false = sym element.1 ∙ not_global in grind (arith, z)

      no_place : is_among x (pc ∷ own_names (id_of E.instance) L.own) ≡ false → same_name x pc ≡ false
      no_place m = go (same_name x pc) m
        where
          go : (c : Bool) → (c || is_among x (own_names (id_of E.instance) L.own)) ≡ false → c ≡ false
          go true m = absurd (grind (arith, m))
          go false m = refl

      of_t : part_at x a t ≡ part_at x a s
      of_t = go (is_among x (pc ∷ own_names (id_of E.instance) L.own)) refl
        where
          go : (c : Bool) → is_among x (pc ∷ own_names (id_of E.instance) L.own) ≡ c → part_at x a t ≡ part_at x a s
          go true m = E.left.others x (or_nothing (part_at x (id_of E.instance) s)) a (good_states.part_of b R k E.instance E.at s good E.words x m) other
          go false m = ap (option_and_then (λ f. apply f a)) (E.left.unchanged x (may_not m) (no_place m))

  part_same : (j : ℕ) (a : Data) → nth L.ids j ≡ Some a → (x : Name) → is_among x (names_of L j) ≡ true → part_at x a t ≡ part_at x a u
  part_same j a at x n = go (nat_eq j k) refl
    where
      go : (c : Bool) → nat_eq j k ≡ c → part_at x a t ≡ part_at x a u
      go true e =
          let jk = (equal_or j k true e).0 refl in
          let same : a ≡ id_of E.instance = some_value a (id_of E.instance) (sym at ∙ ap (nth L.ids) jk ∙ at_id) in
          ap (λ z. part_at x z t) same ∙ part_of_k x (ap (λ z. is_among x (names_of L z)) (sym jk) ∙ n) ∙ ap (λ z. part_at x z u) (sym same)
      go false e = part_else j a at ((equal_or j k false e).1 refl) x n

  -- ---- variables

  keeps_t : (x : Name) (ks : List Data) → Rattle.pgo_sections.specs.Domains.KeepsDomain (context_of b E.instance s) x → IsFunctionOn ks (find x s) → IsFunctionOn ks (find x t)
  keeps_t x ks keeps on_s =
      let l = end_at b k E.instance s E.words s [] (value_in s pc (id_of E.instance)) E.code E.at_code in
      domains_kept (context_of b E.instance s) E.code E.words t ps x ks ((R.keeps k E.instance E.at).elements l.0 E.code l.1) E.leads keeps on_s

  after_made : after_changes made.changes s ≡ Some u
  after_made = go (Rattle.pgo_model.specs.Log.are_in made.changes s) (after_is L layout k s has made is_of_k)
    where
      go : (c : Bool) → (if c then after_changes made.changes s else None) ≡ Some u → after_changes made.changes s ≡ Some u
      go true e = e
      go false e = absurd (grind (arith, e))

  -- the resource in the specification
  found_resource : (n : ℕ) (r : Resource) → nth y.resources n ≡ Some r → (q : Rattle.pgo_syntax.specs.declared.bound.Resource.Resource) × (nth b.resources n ≡ Some q) × (resource_of q ≡ r)
  found_resource n r at =
      let a = Rattle.pgo_workers.proofs.LayoutChanges.nth_there b.resources n (sym (ap (nat_lt n) (good_states.map_length resource_of b.resources)) ∙ Rattle.pgo_accesses.proofs.Within.there_below y.resources n r at) in
      (a.0, a.1, (let z : Some (resource_of a.0) ≡ Some r = sym (Rattle.pgo_bound.specs.Among.nth_map resource_of n b.resources a.0 a.1) ∙ at in cc))

  of_parts : (x : Name) → ((n : ℕ) (r : Resource) → nth y.resources n ≡ Some r → x ≡ r.global → r.index ≡ None → ⊥) → (cs : List Change) → worlds.are_components_of L k cs ≡ true → OfParts x cs
  of_parts x not [] m = tt
  of_parts x not (c ∷ cs) m =
      let q = first L layout k c cs m in
      ((λ same. here same (whose L layout k c.component q.is_of)), of_parts x not cs q.behind)
    where
      indexed : (n : ℕ) (r : Resource) → nth y.resources n ≡ Some r → x ≡ r.global → (j : Option Data) → r.index ≡ j → (v : Data) × (r.index ≡ Some v)
      indexed n r at e None f = absurd (not n r at e f)
      indexed n r at e (Some v) f = (v, f)

      here : same_name x c.component.variable ≡ true → Whose L layout k c.component → (v : Data) × (c.component.index ≡ Some v)
      here same (IsShared n r w at v j) = let q = indexed n r at (same_name-is x c.component.variable same ∙ v) r.index refl in (q.0, j ∙ q.1)
      here same (IsOne a w at n j) = (a, j)

  of_others : (x : Name) → ((n : ℕ) (r : Resource) → nth y.resources n ≡ Some r → x ≡ r.global → ⊥) → (is_among x (names_of L k) ≡ true → ⊥) → (cs : List Change) → worlds.are_components_of L k cs ≡ true → OfOthers x cs
  of_others x not none [] m = tt
  of_others x not none (c ∷ cs) m =
      let q = first L layout k c cs m in
      (same_name-not x c.component.variable (λ e. here e (whose L layout k c.component q.is_of)), of_others x not none cs q.behind)
    where
      here : x ≡ c.component.variable → Whose L layout k c.component → ⊥
      here e (IsShared n r w at v j) = not n r at (e ∙ v)
      here e (IsOne a w at n j) = none (subst (λ z. is_among z (names_of L k) ≡ true) (sym e) n)

  global_of : (n : ℕ) (r : Resource) → nth y.resources n ≡ Some r → is_among r.global (good_states.globals b R) ≡ true
  global_of n r at =
      let q = found_resource n r at in
      let g = (R.sound.resources_global n q.0 q.1).0 in
      among_true r.global (good_states.globals b R) (subst (λ x. IsAmong x (good_states.globals b R)) (g.3 ∙ ap (λ (z : Resource). z.global) q.2) (among_map (λ d. d.name.name) g.1 b.spec.globals (among_nth g.1 b.spec.globals g.0 g.2)))

  isin_nth : (v : Data) (xs : List Data) → IsIn v xs → (n : ℕ) × (nth xs n ≡ Some v)
  isin_nth v [] m = absurd m
  isin_nth v (x ∷ xs) (inl e) = (0, ap Some (sym e))
  isin_nth v (x ∷ xs) (inr m) = let r = isin_nth v xs m in (suc r.0, r.1)

  contains_in : (v : Data) (xs : List Data) → contains v xs ≡ true → IsIn v xs
  contains_in v [] m = absurd (grind (arith, m))
  contains_in v (x ∷ xs) m = go (same_data v x) refl m (λ e. contains_in v xs e)
    where
      go : (c : Bool) → same_data v x ≡ c → (if c then true else contains v xs) ≡ true → (contains v xs ≡ true → IsIn v xs) → IsIn v (x ∷ xs)
      go true e m ih = inl (same_of v x e)
      go false e m ih = inr (ih m)

  in_contains : (v : Data) (xs : List Data) → IsIn v xs → contains v xs ≡ true
  in_contains v [] m = absurd m
  in_contains v (x ∷ xs) (inl e) = ap (λ c. if c then true else contains v xs) (subst (λ z. same_data v z ≡ true) e (Rattle.pgo_accesses.proofs.Parts.same_self v))
  in_contains v (x ∷ xs) (inr m) = go (same_data v x) (in_contains v xs m)
    where
      go : (c : Bool) → contains v xs ≡ true → (if c then true else contains v xs) ≡ true
      go true e = refl
      go false e = e

  -- a variable that belongs to instances
  own_same : (x : Name) (ids : List Data) → IsFunctionOn (in_order ids) (find x s) → is_among x (good_states.globals b R) ≡ false
      → ((a : Data) → IsIn a ids → (j : ℕ) × (nth L.ids j ≡ Some a) × (is_among x (names_of L j) ≡ true)) → find x t ≡ find x u
  own_same x ids on_s not_global belongs =
      function_same (in_order ids) (find x t) (find x u) (keeps_t x (in_order ids) (own not_global) on_s)
      (after_keeps made.changes s u x (in_order ids) after_made (of_parts x (λ n r at e none. let z : true ≡ false = sym (global_of n r at) ∙ ap (λ g. is_among g (good_states.globals b R)) (sym e) ∙ not_global in grind (arith, z)) made.changes is_of_k) on_s)
      (good_states.sorted_once (in_order ids) (sorted-in_order ids))
      (λ a c. let j = belongs a (in-in_order a ids (contains_in a (in_order ids) c)) in part_same j.0 a j.1 x j.2)

  place_same : find pc t ≡ find pc u
  place_same = own_same pc (ids_of y) good.places (good_states.place_apart b R) (λ a m.
      let j = isin_nth a (ids_of y) m in
      (j.0, j.1, ap (λ o. is_among pc (names_at L o)) j.1 ∙ ap (λ c. c || is_among pc (own_names a L.own)) (same_name-self pc)))

  named_to : (a : Data) (os : List Owned) (q : Owned) → IsAmong q os → contains a q.ids ≡ true → is_among q.variable (own_names a os) ≡ true
  named_to a [] q m c = absurd m
  named_to a (p ∷ os) q (inl e) c =
      let here : contains a p.ids ≡ true = ap (λ (z : Owned). contains a z.ids) (sym e) ∙ c in
      ap (λ z. is_among q.variable (if z then p.variable ∷ own_names a os else own_names a os)) here ∙ own_name_here q.variable p.variable (own_names a os) (ap (λ (z : Owned). z.variable) e)
  named_to a (p ∷ os) q (inr m) c = go (contains a p.ids) (named_to a os q m c)
    where
      go : (z : Bool) → is_among q.variable (own_names a os) ≡ true → is_among q.variable (if z then p.variable ∷ own_names a os else own_names a os) ≡ true
      go true ih = own_name_behind q.variable p.variable (own_names a os) ih
      go false ih = ih

  from_filter : (p : Instance → Bool) (x : Instance) (xs : List Instance) → IsAmong x (filter p xs) → IsAmong x xs
  from_filter p x [] m = m
  from_filter p x (z ∷ xs) m = go (p z) m (λ m. from_filter p x xs m)
    where
      go : (c : Bool) → IsAmong x (cond c (z ∷ filter p xs) (filter p xs)) → (IsAmong x (filter p xs) → IsAmong x xs) → IsAmong x (z ∷ xs)
      go true (inl e) ih = inl e
      go true (inr m) ih = inr (ih m)
      go false m ih = inr (ih m)

  isin_among : (v : Data) (xs : List Data) → IsIn v xs → IsAmong v xs
  isin_among v [] m = m
  isin_among v (x ∷ xs) (inl e) = inl e
  isin_among v (x ∷ xs) (inr m) = inr (isin_among v xs m)

  ids_belong : (q : Owned) → IsAmong q y.own → (a : Data) → IsIn a q.ids → (j : ℕ) × (nth L.ids j ≡ Some a)
  ids_belong q m a c =
      let p = from_flat_map (owned_by b) q b.spec.processes m in
      let x = from_map (owned b p.0) q (bound.own_names b.spec p.0) p.2 in
      let test = λ (i : Instance). same_name p.0.name.name i.process in
      let in_ids : IsAmong a (map id_of (filter test b.instances)) = isin_among a (map id_of (filter test b.instances)) (subst (λ (z : Owned). IsIn a z.ids) x.2 c) in
      let i = from_map id_of a (filter test b.instances) in_ids in
      let n = nth_among i.0 b.instances (from_filter test i.0 b.instances i.1) in
      (n.0, Rattle.pgo_bound.specs.Among.nth_map (λ m. m.id) n.0 (map member_of b.instances) (member_of i.0) (Rattle.pgo_bound.specs.Among.nth_map member_of n.0 b.instances i.0 n.1) ∙ ap Some (sym i.2))

  owned_same : (q : Owned) → IsAmong q y.own → find q.variable t ≡ find q.variable u
  owned_same q m =
      let n = nth_among q y.own m in
      own_same q.variable q.ids (good.own n.0 q n.1) (good_states.own_apart b R q m) (λ a c.
      let j = ids_belong q m a c in
      (j.0, j.1, ap (λ o. is_among q.variable (names_at L o)) j.1 ∙ own_name_behind q.variable pc (own_names a L.own) (named_to a L.own q m (in_contains a q.ids c))))

  -- ---- globals

  there_at : (v : Vars) → map (λ p. p.0) v ≡ variables_of b.spec → (x : Name) → IsAmong x (variables_of b.spec) → (a : Data) × (find x v ≡ Some a)
  there_at v e x m =
      Rattle.pgo_sections.proofs.Closing.found_among v x (ap (is_among x) (e) ∙ among_true x (variables_of b.spec) m)

  names_s : map (λ p. p.0) s ≡ variables_of b.spec
  names_s = ((states_same b s R.sound R.globals).0 good).state.variables

  names_t : map (λ p. p.0) t ≡ variables_of b.spec
  names_t = E.left.names ∙ names_s

  names_u : map (λ p. p.0) u ≡ variables_of b.spec
  names_u = patched_names L layout k s has made is_of_k ∙ names_s

  -- what a resource has in the specification's terms
  value_of : (v : Vars) (n : ℕ) (q : Rattle.pgo_syntax.specs.declared.bound.Resource.Resource) (x : Name) (j : Option Data) → nth b.resources n ≡ Some q → q.global ≡ x → Rattle.pgo_bound.specs.Sound.index_in q ≡ j
      → W.value v n ≡ or_nothing (Rattle.pgo_accesses.proofs.SectionTrees.component_in (x, j) v)
  value_of v n q x j at e f =
      ap or_nothing (ap (λ c. content c v) (Rattle.pgo_workers.proofs.LayoutChanges.component_there L.resources n (resource_of q) (Rattle.pgo_bound.specs.Among.nth_map resource_of n b.resources q at))
      ∙ (λ i. Rattle.pgo_accesses.proofs.SectionTrees.component_in (e i, f i) v))

  is_number : (n : ℕ) (q : Rattle.pgo_syntax.specs.declared.bound.Resource.Resource) → nth b.resources n ≡ Some q → W.is_resource n ≡ true
  is_number n q at = Rattle.pgo_accesses.proofs.Within.there_below y.resources n (resource_of q) (Rattle.pgo_bound.specs.Among.nth_map resource_of n b.resources q at)

  or_same : (p q : Option Data) → (a : Data) × (p ≡ Some a) → (c : Data) × (q ≡ Some c) → or_nothing p ≡ or_nothing q → p ≡ q
  or_same p q a c e = a.1 ∙ ap Some (sym (ap or_nothing a.1) ∙ e ∙ ap or_nothing c.1) ∙ sym c.1

  whole_same : (x : Name) → IsAmong x (variables_of b.spec) → (n : ℕ) (q : Rattle.pgo_syntax.specs.declared.bound.Resource.Resource) → nth b.resources n ≡ Some q → q.global ≡ x → Rattle.pgo_bound.specs.Sound.index_in q ≡ None → find x t ≡ find x u
  whole_same x m n q at e f =
      or_same (find x t) (find x u) (there_at t names_t x m) (there_at u names_u x m)
      (sym (ap or_nothing (some_of (find x t))) ∙ sym (value_of t n q x None at e f) ∙ values_same n (is_number n q at) ∙ value_of u n q x None at e f ∙ ap or_nothing (some_of (find x u)))
    where
      some_of : (p : Option Data) → option_and_then (λ v. Some v) p ≡ p
      some_of None = refl
      some_of (Some v) = refl

  elements_same : (x : Name) → is_among x (good_states.globals b R) ≡ true → is_by_element (kind_in b x) ≡ true → find x t ≡ find x u
  elements_same x m by =
      let is : IsElements (context_of b E.instance s) y.resources (own_start b R s good E.words k E.instance E.at) E.words x = (by, m) in
      let e = good_states.elements_at b R k E.instance E.at s good E.words x is in
      let ks = keys (graph e.pairs) in
      let on_s : IsFunctionOn ks (find x s) = (e.pairs, e.is, refl) in
      let on_t = keeps_t x ks (elements by) on_s in
      let on_u = after_keeps made.changes s u x ks after_made (of_parts x (λ n r at same none. no_whole n r at same none) made.changes is_of_k) on_s in
      function_same ks (find x t) (find x u) on_t on_u e.once (λ a c.
      let q = e.index a c in
      or_same (part_at x a t) (part_at x a u) (function_there ks (find x t) a on_t c) (function_there ks (find x u) a on_u c)
      (sym (value_of t q.0 q.1 x (Some a) q.2 q.3 q.4) ∙ values_same q.0 (is_number q.0 q.1 q.2) ∙ value_of u q.0 q.1 x (Some a) q.2 q.3 q.4))
    where
      no_whole : (n : ℕ) (r : Resource) → nth y.resources n ≡ Some r → x ≡ r.global → r.index ≡ None → ⊥
      no_whole n r at same none =
          let q = found_resource n r at in
          R.globals.elements x (good_states.is_element_kind (kind_in b x) by) (n, q.0, q.1, ap (λ (z : Resource). z.global) q.2 ∙ sym same, ap (λ (z : Resource). z.index) q.2 ∙ none)

  unbound_same : (x : Name) → is_among x (good_states.globals b R) ≡ true → kind_in b x ≡ Unbound → find x t ≡ find x u
  unbound_same x m kind =
      E.left.unchanged x may_not no_place
      ∙ sym (after_other made.changes s u x after_made (of_others x not_resource (λ n. let z : true ≡ false = sym m ∙ global_not_own x (id_of E.instance) (named_k x n) in grind (arith, z)) made.changes is_of_k))
    where
      no_place : same_name x pc ≡ false
      no_place = same_name-not x pc (λ e. let z : true ≡ false = sym m ∙ ap (λ z. is_among z (good_states.globals b R)) e ∙ good_states.place_apart b R in grind (arith, z))

      not_resource : (n : ℕ) (r : Resource) → nth y.resources n ≡ Some r → x ≡ r.global → ⊥
      not_resource n r at same =
          let q = found_resource n r at in
          R.globals.unbound n q.0 q.1 (ap (kind_in b) (ap (λ (z : Resource). z.global) q.2 ∙ sym same) ∙ kind)

      may_not : MayChange (context_of b E.instance s) y.resources (own_start b R s good E.words k E.instance E.at) E.words x → ⊥
      may_not (inl mine) = let z : true ≡ false = sym m ∙ mine.0 in grind (arith, z)
      may_not (inr (inl whole)) =
          let a = good_states.numbered b R (x, None) whole.1.0 whole.1.1 in
          R.globals.unbound whole.1.0 a.found a.at (ap (kind_in b) a.global ∙ kind)
      may_not (inr (inr element)) = let z : false ≡ true = sym (ap is_by_element kind) ∙ element.0 in grind (arith, z)

  global_same : (x : Name) → IsAmong x (variables_of b.spec) → IsAmong x (good_states.globals b R) → find x t ≡ find x u
  global_same x v m = go (kind_in b x) refl
    where
      go : (z : ResourceKind) → kind_in b x ≡ z → find x t ≡ find x u
      go Unbound e = unbound_same x (among_true x (good_states.globals b R) m) e
      go ByElement e = elements_same x (among_true x (good_states.globals b R) m) (ap is_by_element e)
      go AsWhole e =
          let g = from_map (λ d. d.name.name) x b.spec.globals m in
          let n = nth_among g.0 b.spec.globals g.1 in
          let w = R.globals.whole n.0 g.0 n.1 (ap (kind_in b) (sym g.2) ∙ e) in
          whole_same x v w.0 w.1 w.2 (w.3 ∙ sym g.2) w.4

  variable_same : (x : Name) → IsAmong x (variables_of b.spec) → find x t ≡ find x u
  variable_same x m = go (among_append x (good_states.globals b R ++ (pc ∷ [])) (flat_map owns b.spec.processes) m)
    where
      owns : Process → List Name
      owns p = map (written p.name.name) (bound.own_names b.spec p)

      front : IsAmong x (good_states.globals b R) ⊎ IsAmong x (pc ∷ []) → find x t ≡ find x u
      front (inl g) = global_same x m g
      front (inr (inl e)) = ap (λ z. find z t) e ∙ place_same ∙ ap (λ z. find z u) (sym e)
      front (inr (inr e)) = absurd e

      go : IsAmong x (good_states.globals b R ++ (pc ∷ [])) ⊎ IsAmong x (flat_map owns b.spec.processes) → find x t ≡ find x u
      go (inl f) = front (among_append x (good_states.globals b R) (pc ∷ []) f)
      go (inr f) =
          let p = from_flat_map owns x b.spec.processes f in
          let z = from_map (written p.0.name.name) x (bound.own_names b.spec p.0) p.2 in
          let q = owned b p.0 z.0 in
          let there = among_flat_map (owned_by b) p.0 q b.spec.processes p.1 (among_map (owned b p.0) z.0 (bound.own_names b.spec p.0) z.1) in
          ap (λ n. find n t) z.2 ∙ owned_same q there ∙ ap (λ n. find n u) (sym z.2)

  -- the state behind the entry is the end
  pub end_is : t ≡ W.patched s (effect_of L k (own_in L s k) o (changes_at taken f h) ps)
  end_is =
      vars_same t u (names_t ∙ sym names_u) (subst bound.AreDifferent (sym names_t) R.differ) (λ x m. variable_same x (subst (IsAmong x) names_t m))
      ∙ ap (λ cs. W.patched s (effect_of L k (own_in L s k) o cs ps)) (changes_are f h taken)

-- an instance whose section goes on
pub next_of : (b : Bound) (R : Runnable b) (s : Vars) (good : IsSystemState (system_of b) s) (d : Words) (k : ℕ) (o : walks.Own) (ps : List Data)
    → ending (tree_with b d k (own_in (layout_of (system_of b)) s k)) (worlds.value_in (layout_of (system_of b)) s) ≡ Goes o ps
    → (SectTry b k s d).end ≡ Next ((world_at b).patched s (effect_of (layout_of (system_of b)) k (own_in (layout_of (system_of b)) s k) o (changes_at (taken_after (visits (tree_with b d k (own_in (layout_of (system_of b)) s k)) (worlds.value_in (layout_of (system_of b)) s)) []) (worlds.value_in (layout_of (system_of b)) s) (final (tree_with b d k (own_in (layout_of (system_of b)) s k)) (worlds.value_in (layout_of (system_of b)) s))) ps)) ps
next_of b R s good d k o ps goes =
    let E = leads b R s good d k o ps goes in
    E.is ∙ ap (λ x. Next x ps) (end_is b R s good d k o ps E goes)
