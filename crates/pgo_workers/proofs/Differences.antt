-- The entry that a worker makes is what differs between the states before it and behind it.
use Rattle.std.proofs.Common.{◌≡◌, ◌≤◌, ◌<◌, ◌+◌, ℕ, zero, suc, Bool, true, false, List, [], ◌∷◌, ◌++◌, length, map, Option, Some, None, refl, sym, ap, ◌∙◌, subst, arith}
use Rattle.std.specs.Prelude.{if◌then◌else◌, nat_eq, nat_le, nat_lt, not, option_and_then, ◌||◌}
use Rattle.pgo_base.specs.Data.{Data}
use Rattle.pgo_base.specs.Lookup.{Name, Vars, same_name, find}
use Rattle.pgo_model.specs.Log.{OfResource, Component, Change, Effect, content, differs, resource_components, parts_at, own_names, own_components, components_of, changes_between, label_in, label_of, effect_between}
use Rattle.pgo_model.specs.Machine.{nth, among}
use Rattle.pgo_model.specs.MachineAccounts.{equal_or}
use Rattle.pgo_model.specs.Names.{same_name-self, same_name-is, is_among}
use Rattle.pgo_model.specs.Operators.{apply}
use Rattle.pgo_model.specs.Options.{on}
use Rattle.pgo_model.specs.System.{System, Member, Resource, ids_of}
use Rattle.pgo_model.specs.Variables.{place_of}
use Rattle.pgo_model.specs.Written.{pc}
use Rattle.pgo_workers.specs.Walk.{At, Own}
use Rattle.pgo_workers.specs.View.{Hold, EachHold, Once, changed, places, resources_of}
use Rattle.pgo_workers.specs.Worker.{changes_of}
use Rattle.pgo_workers.specs.Sentences.{IsOwn}
use Rattle.pgo_workers.specs.Worlds.{Layout, layout_of, IsLayout, HasAll, or_nothing, component_at, own_component, names_at, names_of, own_at, own_in, value_in, resource_change, put_in_order, changed_resources, changed_own, label_at, effect_of, world_of}
use Rattle.pgo_workers.proofs.Components.{same_self}
use Rattle.pgo_workers.proofs.LayoutChanges.{component_there, own_name_here, own_name_behind}
use Rattle.pgo_workers.proofs.Patched.{patched_has, patched_value, patched_else}
use Rattle.pgo_workers.proofs.MadeEntries.{EachAt, put_each, changed_each, changed_not_among, not_changed, effect_changes}
use Rattle.pgo_workers.proofs.EntryComponents.{is_of, own_patched}

-- ---- lists of components

-- one component, before the others
abbrev pub with_first : Component → Vars → Vars → List Change → List Change
with_first c s t rest = on rest (content c t) (λ v. if differs (content c s) (content c t) then record { component = c; value = v } ∷ rest else rest)

first_joined : (c : Component) (s t : Vars) (ds bs : List Change) → with_first c s t (ds ++ bs) ≡ with_first c s t ds ++ bs
first_joined c s t ds bs = go (content c t)
  where
    go : (o : Option Data) → on (ds ++ bs) o (λ v. if differs (content c s) o then record { component = c; value = v } ∷ (ds ++ bs) else ds ++ bs)
        ≡ on ds o (λ v. if differs (content c s) o then record { component = c; value = v } ∷ ds else ds) ++ bs
    go None = refl
    go (Some v) = by_case (differs (content c s) (Some v))
      where
        by_case : (b : Bool) → (if b then record { component = c; value = v } ∷ (ds ++ bs) else ds ++ bs) ≡ (if b then record { component = c; value = v } ∷ ds else ds) ++ bs
        by_case true = refl
        by_case false = refl

changes_joined : (cs ds : List Component) (s t : Vars) → changes_between (cs ++ ds) s t ≡ changes_between cs s t ++ changes_between ds s t
changes_joined [] ds s t = refl
changes_joined (c ∷ cs) ds s t = ap (with_first c s t) (changes_joined cs ds s t) ∙ first_joined c s t (changes_between cs s t) (changes_between ds s t)

same_first : (c : Component) (s t : Vars) (rest : List Change) → content c t ≡ content c s → with_first c s t rest ≡ rest
same_first c s t rest e = ap (λ o. on rest o (λ v. if differs (content c s) o then record { component = c; value = v } ∷ rest else rest)) e ∙ go (content c s)
  where
    go : (o : Option Data) → on rest o (λ v. if differs o o then record { component = c; value = v } ∷ rest else rest) ≡ rest
    go None = refl
    go (Some v) = ap (λ b. if not b then record { component = c; value = v } ∷ rest else rest) (same_self v)

there : (o : Option Data) → Rattle.std.specs.Prelude.is_some o ≡ true → o ≡ Some (or_nothing o)
there None h = absurd (grind (arith, h))
there (Some v) h = refl

none_left : {A : Type 0} (l : List A) → l ++ [] ≡ l
none_left [] = refl
none_left (x ∷ l) = ap (λ k. x ∷ k) (none_left l)

-- ---- resources

-- from a on, rising
abbrev pub Rises : ℕ → List At → Type 0
Rises a [] = Unit {0}
Rises a (v ∷ vs) = (a ≤ v.0) × Rises (suc v.0) vs

put_rises : (c : At) (ds : List At) (a : ℕ) → a ≤ c.0 → among c.0 (places ds) ≡ false → Rises a ds → Rises a (put_in_order c ds)
put_rises c [] a le m r = (le, tt)
put_rises c (d ∷ ds) a le m r = go (nat_le c.0 d.0) (nat_eq c.0 d.0) refl refl m (λ near m. put_rises c ds (suc d.0) near m r.1)
  where
    go : (b e : Bool) → nat_le c.0 d.0 ≡ b → nat_eq c.0 d.0 ≡ e → (if e then true else among c.0 (places ds)) ≡ false → (suc d.0 ≤ c.0 → among c.0 (places ds) ≡ false → Rises (suc d.0) (put_in_order c ds))
        → Rises a (if b then c ∷ (d ∷ ds) else d ∷ put_in_order c ds)
    go b true p q m ih = absurd (grind (arith, m))
    go true false p q m ih = (le, (grind (arith, p, q), r.1))
    go false false p q m ih = (r.0, ih (grind (arith, p)) m)

changed_rises : (hs : List Hold) → Once (resources_of hs) → Rises 0 (changed_resources (changes_of hs))
changed_rises [] o = tt
changed_rises (h ∷ hs) o = go (differs (Some h.content.base) (Some h.content.current)) (changed_rises hs o.1)
  where
    go : (b : Bool) → Rises 0 (changed_resources (changes_of hs)) → Rises 0 (if b then put_in_order (h.resource, h.content.current) (changed_resources (changes_of hs)) else changed_resources (changes_of hs))
    go true ih = put_rises (h.resource, h.content.current) (changed_resources (changes_of hs)) 0 (omega arith) (changed_not_among h.resource hs o.0) ih
    go false ih = ih

changed_differs : (w : ℕ → Data) (hs : List Hold) → EachHold (λ h. w h.resource ≡ h.content.base) hs → EachAt (λ v. differs (Some (w v.0)) (Some v.1) ≡ true) (changed_resources (changes_of hs))
changed_differs w [] e = tt
changed_differs w (h ∷ hs) e = go (differs (Some h.content.base) (Some h.content.current)) refl (changed_differs w hs e.1)
  where
    go : (b : Bool) → differs (Some h.content.base) (Some h.content.current) ≡ b → EachAt (λ v. differs (Some (w v.0)) (Some v.1) ≡ true) (changed_resources (changes_of hs))
        → EachAt (λ v. differs (Some (w v.0)) (Some v.1) ≡ true) (if b then put_in_order (h.resource, h.content.current) (changed_resources (changes_of hs)) else changed_resources (changes_of hs))
    go true d ih =
        put_each (λ v. differs (Some (w v.0)) (Some v.1) ≡ true) (h.resource, h.content.current) (changed_resources (changes_of hs))
        (ap (λ x. differs (Some x) (Some h.content.current)) e.0 ∙ d) ih
    go false d ih = ih

-- nothing below a is among numbers that rise from a on
not_below : (vs : List At) (a n : ℕ) → Rises a vs → n < a → among n (places vs) ≡ false
not_below [] a n r h = refl
not_below (v ∷ vs) a n r h =
    let q : nat_eq n v.0 ≡ false = grind (arith, h, r.0) in
    ap (λ b. if b then true else among n (places vs)) q ∙ not_below vs (suc v.0) n r.1 (grind (arith, h, r.0))

-- the resources from number a on: where the values are w before and f behind
abbrev pub differing : (w f : ℕ → Data) → ℕ → List Resource → List At
differing w f a [] = []
differing w f a (r ∷ rs) = if differs (Some (w a)) (Some (f a)) then (a, f a) ∷ differing w f (suc a) rs else differing w f (suc a) rs

-- are the changed ones
differing_are : (w f : ℕ → Data) (a : ℕ) (rs : List Resource) (vs : List At) → ((n : ℕ) → a ≤ n → n < a + length rs → f n ≡ changed vs n (w n)) → Rises a vs → EachAt (λ v. v.0 < a + length rs) vs
    → EachAt (λ v. differs (Some (w v.0)) (Some v.1) ≡ true) vs → differing w f a rs ≡ vs
differing_are w f a [] [] h r b d = refl
differing_are w f a [] (v ∷ vs) h r b d = absurd (omega (arith, r.0, b.0))
differing_are w f a (q ∷ rs) [] h r b d =
    let e : f a ≡ w a = h a (omega arith) (omega arith) in
    ap (λ x. if differs (Some (w a)) (Some x) then (a, x) ∷ differing w f (suc a) rs else differing w f (suc a) rs) e
    ∙ ap (λ t. if not t then (a, w a) ∷ differing w f (suc a) rs else differing w f (suc a) rs) (same_self (w a))
    ∙ differing_are w f (suc a) rs [] (λ n le lt. h n (omega (arith, le)) (omega (arith, lt))) tt tt tt
differing_are w f a (q ∷ rs) (v ∷ vs) h r b d = go (nat_eq v.0 a) refl (λ f' vs'. λ h r b d. differing_are w f' (suc a) rs vs' h r b d)
  where
    bound : (vs : List At) → EachAt (λ v. v.0 < a + length (q ∷ rs)) vs → EachAt (λ v. v.0 < suc a + length rs) vs
    bound [] e = tt
    bound (u ∷ us) e = (omega (arith, e.0), bound us e.1)

    go : (t : Bool) → nat_eq v.0 a ≡ t
        → ((f' : ℕ → Data) (vs' : List At) → ((n : ℕ) → suc a ≤ n → n < suc a + length rs → f' n ≡ changed vs' n (w n)) → Rises (suc a) vs' → EachAt (λ v. v.0 < suc a + length rs) vs' → EachAt (λ v. differs (Some (w v.0)) (Some v.1) ≡ true) vs' → differing w f' (suc a) rs ≡ vs')
        → differing w f a (q ∷ rs) ≡ v ∷ vs
    go true t ih =
        let at : v.0 ≡ a = (equal_or v.0 a true t).0 refl in
        let e : f a ≡ v.1 = h a (omega arith) (omega arith) ∙ ap (λ x. if x then v.1 else changed vs a (w a)) t in
        let rest : differing w f (suc a) rs ≡ vs =
        ih f vs (λ n le lt. h n (omega (arith, le)) (omega (arith, lt)) ∙ ap (λ x. if x then v.1 else changed vs n (w n)) (let z : nat_eq v.0 n ≡ false = grind (arith, at, le) in z))
        (subst (λ n. Rises (suc n) vs) at r.1) (bound vs b.1) d.1
        in
        (λ i. if (ap (λ x. differs (Some (w a)) (Some x)) e ∙ ap (λ n. differs (Some (w n)) (Some v.1)) (sym at) ∙ d.0) i then (sym at i, e i) ∷ rest i else rest i)
    go false t ih =
        let ne : v.0 ≡ a → ⊥ = (equal_or v.0 a false t).1 refl in
        let up : suc a ≤ v.0 = grind (arith, r.0, t) in
        let e : f a ≡ w a = h a (omega arith) (omega arith) ∙ not_changed (v ∷ vs) a (w a) (not_below (v ∷ vs) (suc a) a (up, r.1) (omega arith)) in
        ap (λ x. if differs (Some (w a)) (Some x) then (a, x) ∷ differing w f (suc a) rs else differing w f (suc a) rs) e
        ∙ ap (λ t. if not t then (a, w a) ∷ differing w f (suc a) rs else differing w f (suc a) rs) (same_self (w a))
        ∙ ih f (v ∷ vs) (λ n le lt. h n (omega (arith, le)) (omega (arith, lt))) (up, r.1) (bound (v ∷ vs) b) d

module _ (y : Layout) (s t : Vars) (has : HasAll y s) (still : HasAll y t) where
  -- the changes between two states are of the differing resources
  resource_differences : (a : ℕ) (rs : List Resource) → ((i : ℕ) (r : Resource) → nth rs i ≡ Some r → (nth y.resources (a + i) ≡ Some r) × (r.number ≡ a + i))
      → changes_between (resource_components rs) s t ≡ map (resource_change y) (differing (value_in y s) (value_in y t) a rs)
  resource_differences a [] h = refl
  resource_differences a (r ∷ rs) h =
      let zero_left : a + 0 ≡ a = omega arith in
      let at_a : nth y.resources a ≡ Some r = ap (nth y.resources) (sym zero_left) ∙ (h 0 r refl).0 in
      let number : r.number ≡ a = (h 0 r refl).1 ∙ zero_left in
      let c : component_at y.resources a ≡ record { variable = r.global; index = r.index; owner = OfResource a } = component_there y.resources a r at_a in
      let is : record { variable = r.global; index = r.index; owner = OfResource r.number } ≡ component_at y.resources a = (λ i. record { variable = r.global; index = r.index; owner = OfResource (number i) }) ∙ sym c in
      ap (λ d. with_first d s t (changes_between (resource_components rs) s t)) is
      ∙ ap (with_first (component_at y.resources a) s t) (resource_differences (suc a) rs (λ i q e. let n : suc a + i ≡ a + suc i = omega arith in let z = h (suc i) q e in (ap (nth y.resources) n ∙ z.0, z.1 ∙ sym n)))
      ∙ opened (component_at y.resources a) (there (content (component_at y.resources a) s) (has.resources a r at_a)) (there (content (component_at y.resources a) t) (still.resources a r at_a))
      ∙ sym (mapped (differs (Some (value_in y s a)) (Some (value_in y t a))))
    where
      mapped : (b : Bool) → map (resource_change y) (if b then (a, value_in y t a) ∷ differing (value_in y s) (value_in y t) (suc a) rs else differing (value_in y s) (value_in y t) (suc a) rs)
          ≡ (if b then record { component = component_at y.resources a; value = value_in y t a } ∷ map (resource_change y) (differing (value_in y s) (value_in y t) (suc a) rs) else map (resource_change y) (differing (value_in y s) (value_in y t) (suc a) rs))
      mapped true = refl
      mapped false = refl

      opened : (c : Component) → content c s ≡ Some (or_nothing (content c s)) → content c t ≡ Some (or_nothing (content c t))
          → with_first c s t (map (resource_change y) (differing (value_in y s) (value_in y t) (suc a) rs)) ≡ (if differs (Some (or_nothing (content c s))) (Some (or_nothing (content c t))) then record { component = c; value = or_nothing (content c t) } ∷ map (resource_change y) (differing (value_in y s) (value_in y t) (suc a) rs) else map (resource_change y) (differing (value_in y s) (value_in y t) (suc a) rs))
      opened c e f = λ i. on (map (resource_change y) (differing (value_in y s) (value_in y t) (suc a) rs)) (f i) (λ v. if differs (e i) (f i) then record { component = c; value = v } ∷ map (resource_change y) (differing (value_in y s) (value_in y t) (suc a) rs) else map (resource_change y) (differing (value_in y s) (value_in y t) (suc a) rs))

  -- ---- own components

  found_own : (k : ℕ) (id : Data) (xs : List Name) (x : Name) → is_among x xs ≡ true → find x (own_at k id xs t) ≡ Some (or_nothing (content (own_component k id x) t))
  found_own k id [] x n = absurd (grind (arith, n))
  found_own k id (z ∷ xs) x n = go (same_name x z) refl n (λ n. found_own k id xs x n)
    where
      go : (b : Bool) → same_name x z ≡ b → (b || is_among x xs) ≡ true → (is_among x xs ≡ true → find x (own_at k id xs t) ≡ Some (or_nothing (content (own_component k id x) t)))
          → (if b then Some (or_nothing (content (own_component k id z) t)) else find x (own_at k id xs t)) ≡ Some (or_nothing (content (own_component k id x) t))
      go true e n ih = ap (λ z. Some (or_nothing (content (own_component k id z) t))) (sym (same_name-is x z e))
      go false e n ih = ih n

  -- the changes of instance k's own components are what differs
  own_differences : (k : ℕ) (id : Data) → nth y.ids k ≡ Some id → (next : Own) → (xs : List Name)
      → ((x : Name) → is_among x xs ≡ true → is_among x (names_of y k) ≡ true) → ((x : Name) → is_among x xs ≡ true → find x next ≡ Some (or_nothing (content (own_component k id x) t)))
      → changes_between (parts_at k id xs) s t ≡ changed_own k id (own_at k id xs s) next
  own_differences k id at_k next [] named found = refl
  own_differences k id at_k next (x ∷ xs) named found =
      let here = own_name_here x x xs refl in
      opened (own_component k id x) (there (content (own_component k id x) s) (has.own k id x at_k (named x here))) (there (content (own_component k id x) t) (still.own k id x at_k (named x here)))
      (own_differences k id at_k next xs (λ z n. named z (own_name_behind z x xs n)) (λ z n. found z (own_name_behind z x xs n)))
      ∙ sym (ap (λ o. on (changed_own k id (own_at k id xs s) next) o (λ v. if differs (Some (or_nothing (content (own_component k id x) s))) (Some v) then record { component = own_component k id x; value = v } ∷ changed_own k id (own_at k id xs s) next else changed_own k id (own_at k id xs s) next)) (found x here))
    where
      opened : (c : Component) → content c s ≡ Some (or_nothing (content c s)) → content c t ≡ Some (or_nothing (content c t)) → changes_between (parts_at k id xs) s t ≡ changed_own k id (own_at k id xs s) next
          → with_first c s t (changes_between (parts_at k id xs) s t)
          ≡ (if differs (Some (or_nothing (content c s))) (Some (or_nothing (content c t))) then record { component = c; value = or_nothing (content c t) } ∷ changed_own k id (own_at k id xs s) next else changed_own k id (own_at k id xs s) next)
      opened c e f r = λ i. on (r i) (f i) (λ v. if differs (e i) (f i) then record { component = c; value = v } ∷ r i else r i)

  -- where the own components of an instance are the same nothing differs
  own_equal : (j : ℕ) (id : Data) → nth y.ids j ≡ Some id → (xs : List Name) → ((x : Name) → is_among x xs ≡ true → is_among x (names_of y j) ≡ true)
      → own_at j id xs t ≡ own_at j id xs s → changes_between (parts_at j id xs) s t ≡ []
  own_equal j id at_j [] named e = refl
  own_equal j id at_j (x ∷ xs) named e =
      let here = own_name_here x x xs refl in
      let same : or_nothing (content (own_component j id x) t) ≡ or_nothing (content (own_component j id x) s) = first_of_two (or_nothing (content (own_component j id x) t)) (or_nothing (content (own_component j id x) s)) (own_at j id xs t) (own_at j id xs s) e in
      let behind : own_at j id xs t ≡ own_at j id xs s = rest_of_two (or_nothing (content (own_component j id x) t)) (or_nothing (content (own_component j id x) s)) (own_at j id xs t) (own_at j id xs s) e in
      same_first (own_component j id x) s t (changes_between (parts_at j id xs) s t)
      (there (content (own_component j id x) t) (still.own j id x at_j (named x here)) ∙ ap Some same ∙ sym (there (content (own_component j id x) s) (has.own j id x at_j (named x here))))
      ∙ own_equal j id at_j xs (λ z n. named z (own_name_behind z x xs n)) behind
    where
      first_of_two : (a b : Data) (l k : Own) → (x, a) ∷ l ≡ (x, b) ∷ k → a ≡ b
      first_of_two a b l k h = ap (λ l. first_or a l) h
        where
          first_or : Data → Own → Data
          first_or d [] = d
          first_or d (p ∷ l) = p.1

      rest_of_two : (a b : Data) (l k : Own) → (x, a) ∷ l ≡ (x, b) ∷ k → l ≡ k
      rest_of_two a b l k h = cc

-- ---- a system

-- the identifier of member k among these, from number j on
abbrev id_from : ℕ → ℕ → List Member → Option Data
id_from k j [] = None
id_from k j (i ∷ is) = if nat_eq j k then Some i.id else id_from k (suc j) is

id_below : (k j : ℕ) (is : List Member) → k < j → id_from k j is ≡ None
id_below k j [] h = refl
id_below k j (i ∷ is) h =
    let n : nat_eq j k ≡ false = grind (arith, h) in
    ap (λ b. if b then Some i.id else id_from k (suc j) is) n ∙ id_below k (suc j) is (omega (arith, h))

id_there : (k j d : ℕ) (is : List Member) → k ≡ j + d → id_from k j is ≡ nth (map (λ i. i.id) is) d
id_there k j d [] h = refl
id_there k j zero (i ∷ is) h = let n : nat_eq j k ≡ true = grind (arith, h) in ap (λ b. if b then Some i.id else id_from k (suc j) is) n
id_there k j (suc d) (i ∷ is) h = let n : nat_eq j k ≡ false = grind (arith, h) in ap (λ b. if b then Some i.id else id_from k (suc j) is) n ∙ id_there k (suc j) d is (omega (arith, h))

nth_map : (is : List Member) (n : ℕ) (i : Member) → nth is n ≡ Some i → nth (map (λ i. i.id) is) n ≡ Some i.id
nth_map [] n i h = absurd (grind (arith, h))
nth_map (j ∷ is) zero i h = ap (λ o. on None o (λ (i : Member). Some i.id)) h
nth_map (j ∷ is) (suc n) i h = nth_map is n i h

module _ (y : System) (k : ℕ) (s t : Vars) (has : HasAll (layout_of y) s) (still : HasAll (layout_of y) t) (o' : Own)
    (own : own_in (layout_of y) t k ≡ o') (others : (j : ℕ) → (j ≡ k → ⊥) → own_in (layout_of y) t j ≡ own_in (layout_of y) s j) where
  own_at_id : (u : Vars) (j : ℕ) (id : Data) → nth (ids_of y) j ≡ Some id → own_in (layout_of y) u j ≡ own_at j id (pc ∷ own_names id y.own) u
  own_at_id u j id e = ap (λ o. on [] o (λ id. own_at j id (pc ∷ own_names id y.own) u)) e

  all_named : (j : ℕ) (id : Data) → nth (ids_of y) j ≡ Some id → (x : Name) → is_among x (pc ∷ own_names id y.own) ≡ true → is_among x (names_of (layout_of y) j) ≡ true
  all_named j id e x n = ap (λ o. is_among x (names_at (layout_of y) o)) e ∙ n

  members_differ : (j : ℕ) (is : List Member) → ((n : ℕ) (i : Member) → nth is n ≡ Some i → nth (ids_of y) (j + n) ≡ Some i.id)
      → changes_between (own_components y.own j is) s t ≡ on [] (id_from k j is) (λ id. changed_own k id (own_in (layout_of y) s k) o')
  members_differ j [] h = refl
  members_differ j (i ∷ is) h =
      changes_joined (parts_at j i.id (pc ∷ own_names i.id y.own)) (own_components y.own (suc j) is) s t
      ∙ go (nat_eq j k) refl (members_differ (suc j) is (λ n m e. let q : suc j + n ≡ j + suc n = omega arith in ap (nth (ids_of y)) q ∙ h (suc n) m e))
    where
      at_j : nth (ids_of y) j ≡ Some i.id
      at_j = let q : j ≡ j + 0 = omega arith in ap (nth (ids_of y)) q ∙ h 0 i refl

      go : (b : Bool) → nat_eq j k ≡ b → changes_between (own_components y.own (suc j) is) s t ≡ on [] (id_from k (suc j) is) (λ id. changed_own k id (own_in (layout_of y) s k) o')
          → changes_between (parts_at j i.id (pc ∷ own_names i.id y.own)) s t ++ changes_between (own_components y.own (suc j) is) s t
          ≡ on [] (if b then Some i.id else id_from k (suc j) is) (λ id. changed_own k id (own_in (layout_of y) s k) o')
      go true e rest =
          let same : j ≡ k = (equal_or j k true e).0 refl in
          let at_k : nth (ids_of y) k ≡ Some i.id = subst (λ j. nth (ids_of y) j ≡ Some i.id) same at_j in
          let nothing : id_from k (suc j) is ≡ None = id_below k (suc j) is (omega (arith, same)) in
          let mine = own_differences (layout_of y) s t has still k i.id at_k o' (pc ∷ own_names i.id y.own) (all_named k i.id at_k)
          (λ x n. ap (find x) (sym own ∙ own_at_id t k i.id at_k) ∙ found_own (layout_of y) s t has still k i.id (pc ∷ own_names i.id y.own) x n) in
          ap (λ l. changes_between (parts_at j i.id (pc ∷ own_names i.id y.own)) s t ++ l) (rest ∙ ap (λ o. on [] o (λ id. changed_own k id (own_in (layout_of y) s k) o')) nothing)
          ∙ none_left (changes_between (parts_at j i.id (pc ∷ own_names i.id y.own)) s t)
          ∙ ap (λ j. changes_between (parts_at j i.id (pc ∷ own_names i.id y.own)) s t) same
          ∙ mine ∙ ap (λ o. changed_own k i.id o o') (sym (own_at_id s k i.id at_k))
      go false e rest =
          let ne : j ≡ k → ⊥ = (equal_or j k false e).1 refl in
          let nothing = own_equal (layout_of y) s t has still j i.id at_j (pc ∷ own_names i.id y.own) (all_named j i.id at_j) (sym (own_at_id t j i.id at_j) ∙ others j ne ∙ own_at_id s j i.id at_j) in
          ap (λ l. l ++ changes_between (own_components y.own (suc j) is) s t) nothing ∙ rest

  label_there : (u : Vars) → HasAll (layout_of y) u → label_in (find pc (own_in (layout_of y) u k)) ≡ label_of y k u
  label_there u all = go (nth y.members k) refl
    where
      place : (o : Option Data) (id : Data) → option_and_then (λ v. apply v id) o ≡ (elim o as (λ o. Option Data) [ None ↦ None | Some f ↦ apply f id ])
      place None id = refl
      place (Some f) id = refl

      none : (is : List Member) (n : ℕ) → nth is n ≡ None → nth (map (λ i. i.id) is) n ≡ None
      none [] n h = refl
      none (i ∷ is) zero h = absurd (grind (arith, h))
      none (i ∷ is) (suc n) h = none is n h

      go : (o : Option Member) → nth y.members k ≡ o → label_in (find pc (own_in (layout_of y) u k)) ≡ on [] o (λ i. label_in (place_of i.id u))
      go None e = ap (λ o. label_in (find pc (on [] o (λ id. own_at k id (pc ∷ own_names id y.own) u)))) (none y.members k e)
      go (Some i) e =
          let at_k = nth_map y.members k i e in
          ap (λ l. label_in (find pc l)) (own_at_id u k i.id at_k)
          ∙ ap (λ b. label_in (if b then Some (or_nothing (content (own_component k i.id pc) u)) else find pc (own_at k i.id (own_names i.id y.own) u))) (same_name-self pc)
          ∙ ap label_in (sym (there (content (own_component k i.id pc) u) (all.own k i.id pc at_k (all_named k i.id at_k pc (own_name_here pc pc (own_names i.id y.own) refl)))))
          ∙ ap label_in (place (find pc u) i.id)

-- resources stand at their numbers
abbrev pub AreNumbered : System → Type 0
AreNumbered y = (n : ℕ) (r : Resource) → nth y.resources n ≡ Some r → r.number ≡ n

module _ (y : System) (layout : IsLayout (layout_of y)) (numbers : AreNumbered y) where
  abbrev W : Rattle.pgo_workers.specs.View.World Vars Effect
  W = world_of (layout_of y)

  module _ (k : ℕ) (s : Vars) (o o' : Own) (hs : List Hold) (ps : List Data) (has : HasAll (layout_of y) s) (own : W.own s k ≡ o) (names : IsOwn W k o') (once : Once (resources_of hs))
      (are : EachHold (λ h. W.is_resource h.resource ≡ true) hs) where
    abbrev made : Effect
    made = effect_of (layout_of y) k o o' (changes_of hs) ps

    made_is_of : W.is_of k made ≡ true
    made_is_of = is_of (layout_of y) layout k o o' hs ps (subst (IsOwn W k) own (Rattle.pgo_workers.proofs.MadeEntries.own_is (layout_of y) k s)) names once are

    pub made_has : HasAll (layout_of y) (W.patched s made)
    made_has = patched_has (layout_of y) layout k s has made made_is_of

    pub made_value : (r : ℕ) → W.is_resource r ≡ true → W.value (W.patched s made) r ≡ changed (W.changes made) r (W.value s r)
    made_value r e = patched_value (layout_of y) layout k s has made made_is_of r e

    pub made_else : (j : ℕ) → (j ≡ k → ⊥) → W.own (W.patched s made) j ≡ W.own s j
    made_else j ne = patched_else (layout_of y) layout k s has made made_is_of j ne

    module _ (bases : EachHold (λ h. W.value s h.resource ≡ h.content.base) hs) where
      own_behind : W.own (W.patched s made) k ≡ o'
      own_behind = own_patched (layout_of y) layout k s o o' hs ps has names once are own bases

      abbrev t : Vars
      t = W.patched s made

      made_labels : label_of y k s ≡ label_at o
      made_labels = sym (label_there y k s t has made_has o' own_behind made_else s has) ∙ ap label_at own

      made_nexts : label_of y k t ≡ label_at o'
      made_nexts = sym (label_there y k s t has made_has o' own_behind made_else t made_has) ∙ ap label_at own_behind

      made_resources : changes_between (resource_components y.resources) s t ≡ map (resource_change (layout_of y)) (changed_resources (changes_of hs))
      made_resources =
          resource_differences (layout_of y) s t has made_has 0 y.resources (λ i r e. let z : i ≡ 0 + i = omega arith in (ap (nth y.resources) (sym z) ∙ e, numbers i r e ∙ z))
          ∙ ap (map (resource_change (layout_of y)))
          (differing_are (W.value s) (W.value t) 0 y.resources (changed_resources (changes_of hs))
          (λ n le lt. made_value n (let z : nat_lt n (length y.resources) ≡ true = grind (arith, lt) in z) ∙ ap (λ vs. changed vs n (W.value s n)) (effect_changes (layout_of y) k o o' (changes_of hs) ps))
          (changed_rises hs once) (changed_each (λ v. v.0 < 0 + length y.resources) hs (below hs are)) (changed_differs (W.value s) hs bases))
        where
          below : (hs : List Hold) → EachHold (λ h. nat_lt h.resource (length y.resources) ≡ true) hs → EachHold (λ h. h.resource < 0 + length y.resources) hs
          below [] e = tt
          below (h ∷ hs) e = (grind (arith, e.0), below hs e.1)

      made_owns : changes_between (own_components y.own 0 y.members) s t ≡ on [] (nth (ids_of y) k) (λ id. changed_own k id o o')
      made_owns =
          members_differ y k s t has made_has o' own_behind made_else 0 y.members (λ n i e. let z : n ≡ 0 + n = omega arith in ap (nth (ids_of y)) (sym z) ∙ nth_map y.members n i e)
          ∙ (λ i. on [] (id_there k 0 k y.members (let z : k ≡ 0 + k = omega arith in z) i) (λ id. changed_own k id (own i) o'))

      -- the entry is what differs
      pub made_differs : effect_between y k s (W.patched s made) ps ≡ made
      made_differs = λ i. record { label = made_labels i; next = made_nexts i; changes = made_changes i; prints = ps }
        where
          made_changes : changes_between (components_of y) s t ≡ made.changes
          made_changes = changes_joined (resource_components y.resources) (own_components y.own 0 y.members) s t ∙ (λ i. made_resources i ++ made_owns i)

    pub made_untouched : (r : ℕ) (x : Data) → among r (resources_of hs) ≡ false → changed (W.changes made) r x ≡ x
    made_untouched r x n = ap (λ vs. changed vs r x) (effect_changes (layout_of y) k o o' (changes_of hs) ps) ∙ not_changed (changed_resources (changes_of hs)) r x (changed_not_among r hs n)
