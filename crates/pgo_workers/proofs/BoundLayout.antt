-- The layout of a sound bound specification whose variables have names that differ, and the components of its states.
use Rattle.std.proofs.Common.{◌≡◌, ℕ, zero, suc, Bool, true, false, List, [], ◌∷◌, ◌++◌, map, Option, Some, None, refl, sym, ap, ◌∙◌, subst, arith, ◌⊎◌, inl, inr}
use Rattle.std.specs.Prelude.{if◌then◌else◌, option_and_then, is_some, ◌||◌}
use Rattle.std.specs.List.{AllByRecursion, flat_map}
use Rattle.pgo_base.specs.Data.{Data, function, Pairs, graph, keys}
use Rattle.pgo_base.specs.Lookup.{Name, Vars, same_name, find}
use Rattle.pgo_base.specs.Sets.{IsIn, in_order, in_order-in}
use Rattle.pgo_model.specs.Log.{OfResource, is_in, own_names}
use Rattle.pgo_model.specs.Machine.{nth}
use Rattle.pgo_model.specs.Names.{same_name-self, same_name-is, is_among}
use Rattle.pgo_model.specs.Operators.{apply, contains, lookup, same_data}
use Rattle.pgo_model.specs.Options.{on}
use Rattle.pgo_model.specs.System.{Resource, Owned, ids_of}
use Rattle.pgo_model.specs.SystemState.{IsElementBound, IsSystemState}
use Rattle.pgo_model.specs.Variables.{IsFunctionOn}
use Rattle.pgo_model.specs.Written.{pc, written}
use Rattle.pgo_syntax.specs.declared.bound.Bound.{Bound}
use Rattle.pgo_syntax.specs.declared.bound.Instance.{Instance}
use Rattle.pgo_syntax.specs.declared.bound.Resource as resource
use Rattle.pgo_syntax.specs.declared.process.Process.{Process}
use Rattle.pgo_bound.specs.Among.{IsAmong, among_map, from_map, from_flat_map, among_nth, nth_among, nth_map}
use Rattle.pgo_bound.specs.Sound.{Sound, IsGlobal, HasDomain, index_in}
use Rattle.pgo_bound.specs.State.{AreDifferent, id_of, variables_of}
use Rattle.pgo_bound.specs.State as bound
use Rattle.pgo_meaning.specs.System.{member_of, owned, owned_by, resource_of, system_of}
use Rattle.pgo_sections.proofs.Domains.{same_of}
use Rattle.pgo_sections.specs.PlainTest.{distinct_names}
use Rattle.pgo_workers.specs.Worlds.{Layout, layout_of, are_other, IsLayout, HasAll, own_component, names_at, names_of}
use Rattle.pgo_workers.proofs.Components.{not_true, same_self}
use Rattle.pgo_workers.proofs.LayoutChanges.{Differ, are_differing, other_indices, component_there}

-- ---- lists

nth_from : {A B : Type 0} (f : A → B) (xs : List A) (n : ℕ) (y : B) → nth (map f xs) n ≡ Some y → (x : A) × (nth xs n ≡ Some x) × (f x ≡ y)
nth_from f [] n y h = absurd (grind (arith, h))
nth_from f (x ∷ xs) zero y h = (x, refl, some_is (f x) y h)
  where
    some_is : {B : Type 0} (a b : B) → Some a ≡ Some b → a ≡ b
    some_is a b h = cc
nth_from f (x ∷ xs) (suc n) y h = nth_from f xs n y h

id_from : (is : List Instance) (n : ℕ) (v : Data) → nth (map (λ i. i.id) (map member_of is)) n ≡ Some v → (i : Instance) × (nth is n ≡ Some i) × (id_of i ≡ v)
id_from is n v h =
    let m = nth_from (λ i. i.id) (map member_of is) n v h in
    let i = nth_from member_of is n m.0 m.1 in
    (i.0, i.1, ap (λ m. m.id) i.2 ∙ m.2)

nth_in : (xs : List Data) (n : ℕ) (v : Data) → nth xs n ≡ Some v → IsIn v xs
nth_in [] n v h = absurd (grind (arith, h))
nth_in (x ∷ xs) zero v h = inl (some_is v x (sym h))
  where
    some_is : (a b : Data) → Some a ≡ Some b → a ≡ b
    some_is a b h = cc
nth_in (x ∷ xs) (suc n) v h = inr (nth_in xs n v h)

contains_in : (v : Data) (xs : List Data) → contains v xs ≡ true → IsIn v xs
contains_in v [] h = absurd (grind (arith, h))
contains_in v (x ∷ xs) h = go (same_data v x) refl h (contains_in v xs)
  where
    go : (b : Bool) → same_data v x ≡ b → (if b then true else contains v xs) ≡ true → (contains v xs ≡ true → IsIn v xs) → IsIn v (x ∷ xs)
    go true e h ih = inl (same_of v x e)
    go false e h ih = inr (ih h)

-- ---- names

-- the variables of owners that differ, and none is x
none_named : (x : Name) (id : Data) (os : List Owned) → AllByRecursion (λ z. same_name x z ≡ false) (map (λ o. o.variable) os) → is_among x (own_names id os) ≡ false
none_named x id [] h = refl
none_named x id (o ∷ os) h = go (contains id o.ids) (none_named x id os h.1)
  where
    go : (b : Bool) → is_among x (own_names id os) ≡ false → is_among x (if b then o.variable ∷ own_names id os else own_names id os) ≡ false
    go true ih = ap (λ b. b || is_among x (own_names id os)) h.0 ∙ ih
    go false ih = ih

differ_named : (id : Data) (os : List Owned) → AreDifferent (map (λ o. o.variable) os) → Differ (own_names id os)
differ_named id [] h = tt
differ_named id (o ∷ os) h = go (contains id o.ids) (differ_named id os h.1)
  where
    go : (b : Bool) → Differ (own_names id os) → Differ (if b then o.variable ∷ own_names id os else own_names id os)
    go true ih = (none_named o.variable id os h.0, ih)
    go false ih = ih

-- an own name is of an owner with the identifier
named_from : (x : Name) (id : Data) (os : List Owned) → is_among x (own_names id os) ≡ true → (o : Owned) × IsAmong o os × (x ≡ o.variable) × (contains id o.ids ≡ true)
named_from x id [] h = absurd (grind (arith, h))
named_from x id (o ∷ os) h = go (contains id o.ids) refl h (λ h. later (named_from x id os h))
  where
    later : (q : Owned) × IsAmong q os × (x ≡ q.variable) × (contains id q.ids ≡ true) → (q : Owned) × IsAmong q (o ∷ os) × (x ≡ q.variable) × (contains id q.ids ≡ true)
    later h = (h.0, inr h.1, h.2, h.3)

    named : contains id o.ids ≡ true → (b : Bool) → same_name x o.variable ≡ b → (b || is_among x (own_names id os)) ≡ true
        → (is_among x (own_names id os) ≡ true → (q : Owned) × IsAmong q (o ∷ os) × (x ≡ q.variable) × (contains id q.ids ≡ true)) → (q : Owned) × IsAmong q (o ∷ os) × (x ≡ q.variable) × (contains id q.ids ≡ true)
    named c true e h ih = (o, inl refl, same_name-is x o.variable e, c)
    named c false e h ih = ih h

    go : (b : Bool) → contains id o.ids ≡ b → is_among x (if b then o.variable ∷ own_names id os else own_names id os) ≡ true
        → (is_among x (own_names id os) ≡ true → (q : Owned) × IsAmong q (o ∷ os) × (x ≡ q.variable) × (contains id q.ids ≡ true)) → (q : Owned) × IsAmong q (o ∷ os) × (x ≡ q.variable) × (contains id q.ids ≡ true)
    go true e h ih = named e (same_name x o.variable) refl h ih
    go false e h ih = ih h

map_joined : {A B : Type 0} (f : A → B) (xs ys : List A) → map f (xs ++ ys) ≡ map f xs ++ map f ys
map_joined f [] ys = refl
map_joined f (x ∷ xs) ys = ap (λ l. f x ∷ l) (map_joined f xs ys)

suffix_differs : (gs : List Name) (x : Name) (xs : List Name) → AreDifferent ((gs ++ (x ∷ [])) ++ xs) → AreDifferent (x ∷ xs)
suffix_differs [] x xs h = h
suffix_differs (g ∷ gs) x xs h = suffix_differs gs x xs h.1

-- ---- functions

lookup_in : (i : Data) (ps : List (Data × Data)) → IsIn i (keys ps) → is_some (lookup i ps) ≡ true
lookup_in i [] h = absurd h
lookup_in i (p ∷ ps) (inl e) = ap (λ b. is_some (if b then Some p.1 else lookup i ps)) (subst (λ k. same_data i k ≡ true) e (same_self i))
lookup_in i (p ∷ ps) (inr h) = go (same_data i p.0) (lookup_in i ps h)
  where
    go : (b : Bool) → is_some (lookup i ps) ≡ true → is_some (if b then Some p.1 else lookup i ps) ≡ true
    go true ih = refl
    go false ih = ih

function_at : (ks : List Data) (o : Option Data) (i : Data) → IsFunctionOn ks o → IsIn i ks → is_some (option_and_then (λ v. apply v i) o) ≡ true
function_at ks o i f h = ap (λ o. is_some (option_and_then (λ v. apply v i) o)) f.1 ∙ lookup_in i (graph f.0) (subst (IsIn i) (sym f.2) h)

find_there : (x : Name) (s : Vars) → IsAmong x (map (λ p. p.0) s) → is_some (find x s) ≡ true
find_there x [] h = absurd h
find_there x (p ∷ s) (inl e) = ap (λ b. is_some (if b then Some p.1 else find x s)) (subst (λ z. same_name x z ≡ true) e (same_name-self x))
find_there x (p ∷ s) (inr h) = go (same_name x p.0) (find_there x s h)
  where
    go : (b : Bool) → is_some (find x s) ≡ true → is_some (if b then Some p.1 else find x s) ≡ true
    go true ih = refl
    go false ih = ih

among_left : {A : Type 0} (x : A) (xs ys : List A) → IsAmong x xs → IsAmong x (xs ++ ys)
among_left x [] ys h = absurd h
among_left x (z ∷ xs) ys (inl e) = inl e
among_left x (z ∷ xs) ys (inr h) = inr (among_left x xs ys h)

module _ (b : Bound) (sound : Sound b) where
  abbrev y : Layout
  y = layout_of (system_of b)

  abbrev names_in : List Process → List Name
  names_in ps = flat_map (λ p. map (written p.name.name) (bound.own_names b.spec p)) ps

  owned_names : (ps : List Process) → map (λ o. o.variable) (flat_map (owned_by b) ps) ≡ names_in ps
  owned_names [] = refl
  owned_names (p ∷ ps) = map_joined (λ o. o.variable) (owned_by b p) (flat_map (owned_by b) ps) ∙ (λ i. each (bound.own_names b.spec p) i ++ owned_names ps i)
    where
      each : (xs : List Name) → map (λ o. o.variable) (map (owned b p) xs) ≡ map (written p.name.name) xs
      each [] = refl
      each (x ∷ xs) = ap (λ l. written p.name.name x ∷ l) (each xs)

  -- identifiers, names and resources are as they are asked to be
  pub layout_sound : AreDifferent (variables_of b.spec) → IsLayout y
  layout_sound different = record {
    identifiers_differ = λ j k v at_j at_k.
        let i = id_from b.instances j v at_j in let m = id_from b.instances k v at_k in
        sound.numbered.identifiers_differ j k i.0 m.0 i.1 m.1 (i.2 ∙ sym m.2);
    names_differ = λ k. names (nth y.ids k);
    resources_differ = λ m n q r at_m at_n ne e.
        let a = nth_from resource_of b.resources m q at_m in let c = nth_from resource_of b.resources n r at_n in
        indices q r a.0 c.0 a.2 c.2 ne (sound.resources_differ m n a.0 c.0 a.1 c.1 (ap (λ r. r.global) a.2 ∙ e ∙ sym (ap (λ r. r.global) c.2)));
    none_own = λ n k r at_n. let a = nth_from resource_of b.resources n r at_n in subst (λ g. is_among g (names_of y k) ≡ false) (ap (λ r. r.global) a.2) (not_own a.0.global (sound.resources_global n a.0 a.1) (nth y.ids k));
  }
    where
      differ : AreDifferent (pc ∷ map (λ o. o.variable) y.own)
      differ = subst (λ l. AreDifferent (pc ∷ l)) (sym (owned_names b.spec.processes)) (suffix_differs (map (λ d. d.name.name) b.spec.globals) pc (names_in b.spec.processes) different)

      names : (o : Option Data) → distinct_names (names_at y o) ≡ true
      names None = refl
      names (Some id) = are_differing (pc ∷ own_names id y.own) (none_named pc id y.own differ.0, differ_named id y.own differ.1)

      indices : {m n : ℕ} (q r : Resource) (a c : resource.Resource) → resource_of a ≡ q → resource_of c ≡ r → (m ≡ n → ⊥) → (m ≡ n) ⊎ ((v w : Data) × (index_in a ≡ Some v) × (index_in c ≡ Some w) × (v ≡ w → ⊥)) → are_other q.index r.index ≡ true
      indices q r a c e f ne (inl h) = absurd (ne h)
      indices q r a c e f ne (inr h) = (λ i. are_other ((sym (ap (λ r. r.index) e) ∙ h.2) i) ((sym (ap (λ r. r.index) f) ∙ h.3) i)) ∙ other_indices h.0 h.1 h.4

      not_own : (g : Name) → IsGlobal b g → (o : Option Data) → is_among g (names_at y o) ≡ false
      not_own g global None = refl
      not_own g global (Some id) = not_true (is_among g (pc ∷ own_names id y.own)) (λ h. go (same_name g pc) refl h)
        where
          go : (t : Bool) → same_name g pc ≡ t → (t || is_among g (own_names id y.own)) ≡ true → ⊥
          go true e h = global.1 (same_name-is g pc e)
          go false e h =
              let o = named_from g id y.own h in
              let p = from_flat_map (owned_by b) o.0 b.spec.processes o.1 in
              let x = from_map (owned b p.0) o.0 (bound.own_names b.spec p.0) p.2 in
              let at_p = nth_among p.0 b.spec.processes p.1 in let at_x = nth_among x.0 (bound.own_names b.spec p.0) x.1 in
              global.2 at_p.0 at_x.0 p.0 x.0 at_p.1 at_x.1 (o.2 ∙ ap (λ o. o.variable) x.2)

  ids_same : (is : List Instance) → map (λ m. m.id) (map member_of is) ≡ map id_of is
  ids_same [] = refl
  ids_same (i ∷ is) = ap (λ l. id_of i ∷ l) (ids_same is)

  -- what a list of variables needs to have all components
  module _ (s : Vars) (variables : map (λ p. p.0) s ≡ variables_of b.spec) (places : IsFunctionOn (in_order (ids_of (system_of b))) (find pc s))
      (own : (n : ℕ) (o : Owned) → nth (system_of b).own n ≡ Some o → IsFunctionOn (in_order o.ids) (find o.variable s))
      (indexed : (n : ℕ) (r : resource.Resource) (i : Data) → nth b.resources n ≡ Some r → index_in r ≡ Some i → (ks : List Data) × IsFunctionOn ks (find r.global s) × IsIn i ks) where
    has_resource : (n : ℕ) (r : resource.Resource) → nth b.resources n ≡ Some r → is_in (record { variable = r.global; index = index_in r; owner = OfResource n }) s ≡ true
    has_resource n r at_n = go (index_in r) refl
      where
        there : is_some (find r.global s) ≡ true
        there =
            let g = sound.resources_global n r at_n in
            find_there r.global s (subst (IsAmong r.global) (sym variables) (subst (λ x. IsAmong x (variables_of b.spec)) g.0.3
            (among_left g.0.1.name.name (map (λ d. d.name.name) b.spec.globals ++ (pc ∷ [])) (names_in b.spec.processes)
            (among_left g.0.1.name.name (map (λ d. d.name.name) b.spec.globals) (pc ∷ [])
            (among_map (λ d. d.name.name) g.0.1 b.spec.globals (among_nth g.0.1 b.spec.globals g.0.0 g.0.2))))))

        found : (o : Option Data) → is_some o ≡ true → is_some (option_and_then (λ v. Some v) o) ≡ true
        found None h = h
        found (Some v) h = h

        go : (o : Option Data) → index_in r ≡ o → is_some (option_and_then (λ v. on (Some v) o (λ i. apply v i)) (find r.global s)) ≡ true
        go None e = found (find r.global s) there
        go (Some i) e = let f = indexed n r i at_n e in function_at f.0 (find r.global s) i f.1 f.2

    has_own : (k : ℕ) (id : Data) (x : Name) → nth y.ids k ≡ Some id → is_among x (pc ∷ own_names id y.own) ≡ true → is_in (own_component k id x) s ≡ true
    has_own k id x at_k n = go (same_name x pc) refl n
      where
        go : (t : Bool) → same_name x pc ≡ t → (t || is_among x (own_names id y.own)) ≡ true → is_some (option_and_then (λ v. apply v id) (find x s)) ≡ true
        go true e h = ap (λ x. is_some (option_and_then (λ v. apply v id) (find x s))) (same_name-is x pc e)
            ∙ function_at (in_order (ids_of (system_of b))) (find pc s) id places (in_order-in id (ids_of (system_of b)) (nth_in (ids_of (system_of b)) k id at_k))
        go false e h =
            let o = named_from x id y.own h in
            let n = nth_among o.0 y.own o.1 in
            ap (λ x. is_some (option_and_then (λ v. apply v id) (find x s))) o.2
            ∙ function_at (in_order o.0.ids) (find o.0.variable s) id (own n.0 o.0 n.1) (in_order-in id o.0.ids (contains_in id o.0.ids o.3))

    has_all : HasAll y s
    has_all = record {
      resources = λ n r at_n.
          let a = nth_from resource_of b.resources n r at_n in
          ap (λ c. is_in c s) (component_there y.resources n r at_n)
          ∙ (λ i. is_in (record { variable = (sym a.2 i).global; index = (sym a.2 i).index; owner = OfResource n }) s) ∙ has_resource n a.0 a.1;
      own = λ k id x at_k n. has_own k id x at_k (sym (ap (λ o. is_among x (names_at y o)) at_k) ∙ n);
    }

  domain_has : (n : ℕ) (r : resource.Resource) (i : Data) → nth b.resources n ≡ Some r → index_in r ≡ Some i → (d : HasDomain b b.start r.global) × IsIn i (keys (graph d.0))
  domain_has n r i at_n e = let d = sound.indexed n r i at_n e in let m = d.3 i (n, r, at_n, refl, e) in (d, nth_in (keys (graph d.0)) m.0 i m.1)

  -- the start has all components
  pub start_has : HasAll y b.start
  start_has =
      has_all b.start sound.start.variables (subst (λ l. IsFunctionOn (in_order l) (find pc b.start)) (sym (ids_same b.instances)) sound.start.places)
      (λ n o is.
      let p = from_flat_map (owned_by b) o b.spec.processes (among_nth o (system_of b).own n is) in
      let x = from_map (owned b p.0) o (bound.own_names b.spec p.0) p.2 in
      let at_p = nth_among p.0 b.spec.processes p.1 in
      let at_x = nth_among x.0 (bound.own_names b.spec p.0) x.1 in
      subst (λ (o : Owned). IsFunctionOn (in_order o.ids) (find o.variable b.start)) (sym x.2) (sound.start.locals at_p.0 at_x.0 p.0 x.0 at_p.1 at_x.1))
      (λ n r i at_n e. let d = domain_has n r i at_n e in (keys (graph d.0.0), (d.0.0, d.0.1, refl), d.1))

  -- a global of which an element is a resource is bound by element
  element_bound : (n : ℕ) (r : resource.Resource) (i : Data) → nth b.resources n ≡ Some r → index_in r ≡ Some i → IsElementBound (system_of b) r.global
  element_bound n r i at_n e = record {
    shared = inr (n, resource_of r, nth_map resource_of n b.resources r at_n, refl);
    elements = λ m q at_m same none.
        let a = nth_from resource_of b.resources m q at_m in
        whole m a.0 a.1 (ap (λ r. r.index) a.2 ∙ none) (sound.resources_differ m n a.0 r a.1 at_n (ap (λ r. r.global) a.2 ∙ same));
  }
    where
      whole : (m : ℕ) (q : resource.Resource) → nth b.resources m ≡ Some q → index_in q ≡ None → (m ≡ n) ⊎ ((v w : Data) × (index_in q ≡ Some v) × (index_in r ≡ Some w) × (v ≡ w → ⊥)) → ⊥
      whole m q at_m none (inl h) =
          let same : Some q ≡ Some r = sym at_m ∙ ap (nth b.resources) h ∙ at_n in
          let z : None ≡ Some i = sym none ∙ ap (λ o. on None o (λ r. index_in r)) same ∙ e in grind (arith, z)
      whole m q at_m none (inr h) = let z : None ≡ Some h.0 = sym none ∙ h.2 in grind (arith, z)

  -- each state of the system has all components
  pub state_has : (s : Vars) → IsSystemState (system_of b) s → HasAll y s
  state_has s state =
      has_all s (state.variables ∙ sound.start.variables) state.places state.own (λ n r i at_n e.
      let d = domain_has n r i at_n e in
      let o = state.domains r.global (element_bound n r i at_n e) in
      (o.0, o.2, subst (IsIn i) (same_keys d.0.0 o.1.0 (sym d.0.1 ∙ o.1.1) ∙ o.1.2) d.1))
    where
      same_keys : (ps qs : Pairs) → Some (function ps) ≡ Some (function qs) → keys (graph ps) ≡ keys (graph qs)
      same_keys ps qs h = let e : ps ≡ qs = cc in ap (λ ps. keys (graph ps)) e
