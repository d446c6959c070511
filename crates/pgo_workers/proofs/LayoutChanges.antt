-- The state after an entry that changes components of resources and of one instance.
use Rattle.std.proofs.Common.{◌≡◌, ◌<◌, ℕ, zero, suc, Bool, true, false, List, [], ◌∷◌, length, map, Option, Some, None, refl, sym, ap, ◌∙◌, subst, arith, ◌⊎◌, inl, inr}
use Rattle.std.specs.Prelude.{if◌then◌else◌, not, nat_eq, nat_lt, ◌&&◌, is_some, ◌||◌}
use Rattle.std.proofs.lemmas.Bool.{and_parts}
use Rattle.std.proofs.lemmas.Option.{same_Some}
use Rattle.pgo_base.specs.Data.{Data}
use Rattle.pgo_base.specs.Lookup.{Name, Vars, same_name}
use Rattle.pgo_model.specs.Core.{same_index}
use Rattle.pgo_model.specs.Log.{Owner, OfResource, OfInstance, Unowned, Component, Change, content, is_in}
use Rattle.pgo_model.specs.Machine.{nth}
use Rattle.pgo_model.specs.MachineAccounts.{equal_or}
use Rattle.pgo_model.specs.Names.{same_name-self, same_name-is, is_among}
use Rattle.pgo_model.specs.Operators.{same_data}
use Rattle.pgo_model.specs.System.{Resource}
use Rattle.pgo_sections.specs.PlainTest.{distinct_names}
use Rattle.pgo_workers.specs.Worlds.{Layout, are_other, IsLayout, HasAll, component_of, component_at, own_component, names_at, names_of, same_component, is_component_among, is_component_of, are_components_of}
use Rattle.pgo_workers.proofs.Components.{not_true, not_both, index_is, same_is, same_made, is_apart, apart_turned}
use Rattle.pgo_workers.proofs.Applied.{Comparable, EachThere}

-- ---- numbers of resources

pub nth_there : {A : Type 0} (l : List A) (n : ℕ) → nat_lt n (length l) ≡ true → (x : A) × (nth l n ≡ Some x)
nth_there [] n h = absurd (let z : n < 0 = grind (arith, h) in grind (arith, z))
nth_there (x ∷ l) zero h = (x, refl)
nth_there (x ∷ l) (suc n) h = nth_there l n (let z : nat_lt n (length l) ≡ true = grind (arith, h) in z)

pub component_there : (rs : List Resource) (n : ℕ) (r : Resource) → nth rs n ≡ Some r → component_at rs n ≡ record { variable = r.global; index = r.index; owner = OfResource n }
component_there rs n r h = ap (component_of n) h

pub own_name_here : (x z : Name) (xs : List Name) → x ≡ z → is_among x (z ∷ xs) ≡ true
own_name_here x z xs e = ap (λ b. b || is_among x xs) (subst (λ z. same_name x z ≡ true) e (same_name-self x))

pub own_name_behind : (x z : Name) (xs : List Name) → is_among x xs ≡ true → is_among x (z ∷ xs) ≡ true
own_name_behind x z xs h = go (same_name x z)
  where
    go : (b : Bool) → (b || is_among x xs) ≡ true
    go true = refl
    go false = h

-- no two of these names are one
abbrev pub Differ : List Name → Type 0
Differ [] = Unit {0}
Differ (x ∷ xs) = (is_among x xs ≡ false) × Differ xs

pub they_differ : (xs : List Name) → distinct_names xs ≡ true → Differ xs
they_differ [] h = tt
they_differ (x ∷ xs) h = go (is_among x xs) refl h (they_differ xs)
  where
    go : (b : Bool) → is_among x xs ≡ b → (not b && distinct_names xs) ≡ true → (distinct_names xs ≡ true → Differ xs) → (is_among x xs ≡ false) × Differ xs
    go true e h ih = absurd (grind (arith, h))
    go false e h ih = (e, ih h)

pub are_differing : (xs : List Name) → Differ xs → distinct_names xs ≡ true
are_differing [] h = refl
are_differing (x ∷ xs) h = ap (λ b. not b && distinct_names xs) h.0 ∙ are_differing xs h.1

-- ---- the components of a layout

-- a variable with an index or without is the component of a resource, or of an instance
pub data IsPart (y : Layout) (x : Name) (at : Option Data) : Type 0 where
  OfShared : (n : ℕ) → (r : Resource) → nth y.resources n ≡ Some r → x ≡ r.global → at ≡ r.index → IsPart y x at
  OfOne : (k : ℕ) → (id : Data) → nth y.ids k ≡ Some id → is_among x (names_of y k) ≡ true → at ≡ Some id → IsPart y x at

pub other_indices : (i j : Data) → (i ≡ j → ⊥) → are_other (Some i) (Some j) ≡ true
other_indices i j n = ap Rattle.std.specs.Prelude.not (not_true (same_data i j) (λ e. n (Rattle.pgo_sections.proofs.Domains.same_of i j e)))

module _ (y : Layout) (layout : IsLayout y) where
  -- of one variable they are apart where their indices are
  apart_by : (c d : Component) → (same_name c.variable d.variable ≡ true → are_other c.index d.index ≡ true) → is_apart c d ≡ true
  apart_by c d h = go (same_name c.variable d.variable) refl
    where
      go : (b : Bool) → same_name c.variable d.variable ≡ b → (if b then are_other c.index d.index else true) ≡ true
      go true e = h e
      go false e = refl

  pub apart_names : (c d : Component) (k : ℕ) → is_among c.variable (names_of y k) ≡ false → is_among d.variable (names_of y k) ≡ true → is_apart c d ≡ true
  apart_names c d k m n = apart_by c d (λ e. absurd (not_both (is_among c.variable (names_of y k)) (subst (λ x. is_among x (names_of y k) ≡ true) (sym (same_name-is c.variable d.variable e)) n) m))

  pub shared_apart : (c d : Component) (m n : ℕ) (q r : Resource) → nth y.resources m ≡ Some q → nth y.resources n ≡ Some r → c.variable ≡ q.global → c.index ≡ q.index → d.variable ≡ r.global → d.index ≡ r.index → (m ≡ n → ⊥) → is_apart c d ≡ true
  shared_apart c d m n q r at_m at_n vc ic vd id ne = apart_by c d (λ e. (λ i. are_other (ic i) (id i)) ∙ layout.resources_differ m n q r at_m at_n ne (sym vc ∙ same_name-is c.variable d.variable e ∙ vd))

  pub ones_apart : (c d : Component) (j k : ℕ) (a b : Data) → nth y.ids j ≡ Some a → nth y.ids k ≡ Some b → c.index ≡ Some a → d.index ≡ Some b → (j ≡ k → ⊥) → is_apart c d ≡ true
  ones_apart c d j k a b at_j at_k ic id ne =
      apart_by c d (λ e. (λ i. are_other (ic i) (id i)) ∙ other_indices a b (λ q. ne (layout.identifiers_differ j k a at_j (at_k ∙ ap Some (sym q)))))

  pub compared : (c d : Component) → IsPart y c.variable c.index → IsPart y d.variable d.index → (same_component c d ≡ true) ⊎ (is_apart c d ≡ true)
  compared c d (OfShared m q at_m vc ic) (OfShared n r at_n vd id) = go (nat_eq m n) refl
    where
      go : (b : Bool) → nat_eq m n ≡ b → (same_component c d ≡ true) ⊎ (is_apart c d ≡ true)
      go true e =
          let same : q ≡ r = same_Some q r (sym at_m ∙ ap (nth y.resources) ((equal_or m n true e).0 refl) ∙ at_n) in
          inl (same_made c d (vc ∙ ap (λ r. r.global) same ∙ sym vd) (ic ∙ ap (λ r. r.index) same ∙ sym id))
      go false e = inr (shared_apart c d m n q r at_m at_n vc ic vd id ((equal_or m n false e).1 refl))
  compared c d (OfShared m q at_m vc ic) (OfOne k b at_k named id) =
      inr (apart_names c d k (subst (λ x. is_among x (names_of y k) ≡ false) (sym vc) (layout.none_own m k q at_m)) named)
  compared c d (OfOne k b at_k named ic) (OfShared n r at_n vd id) =
      inr (apart_turned d c (apart_names d c k (subst (λ x. is_among x (names_of y k) ≡ false) (sym vd) (layout.none_own n k r at_n)) named))
  compared c d (OfOne j a at_j named ic) (OfOne k b at_k named' id) = go (nat_eq j k) refl
    where
      by_name : a ≡ b → (t : Bool) → same_name c.variable d.variable ≡ t → (same_component c d ≡ true) ⊎ (is_apart c d ≡ true)
      by_name e true t = inl (same_made c d (same_name-is c.variable d.variable t) (ic ∙ ap Some e ∙ sym id))
      by_name e false t = inr (ap (λ t. if t then are_other c.index d.index else true) t)

      go : (t : Bool) → nat_eq j k ≡ t → (same_component c d ≡ true) ⊎ (is_apart c d ≡ true)
      go true e = by_name (same_Some a b (sym at_j ∙ ap (nth y.ids) ((equal_or j k true e).0 refl) ∙ at_k)) (same_name c.variable d.variable) refl
      go false e = inr (ones_apart c d j k a b at_j at_k ic id ((equal_or j k false e).1 refl))

  -- ---- what the test says of a change of instance k

  -- whose it is, with what it has
  pub data Whose (k : ℕ) (c : Component) : Type 0 where
    IsShared : (n : ℕ) → (r : Resource) → c.owner ≡ OfResource n → nth y.resources n ≡ Some r → c.variable ≡ r.global → c.index ≡ r.index → Whose k c
    IsOne : (id : Data) → c.owner ≡ OfInstance k → nth y.ids k ≡ Some id → is_among c.variable (names_of y k) ≡ true → c.index ≡ Some id → Whose k c

  pub whose : (k : ℕ) (c : Component) → is_component_of y k c ≡ true → Whose k c
  whose k c h = go c.owner refl h
    where
      mine : (j : ℕ) (o : Option Data) → c.owner ≡ OfInstance j → nth y.ids k ≡ o → nat_eq j k ≡ true → is_among c.variable (names_of y k) ≡ true → same_index c.index o ≡ true → Whose k c
      mine j None w e t n i = absurd (let z : is_among c.variable [] ≡ true = ap (λ o. is_among c.variable (names_at y o)) (sym e) ∙ n in grind (arith, z))
      mine j (Some id) w e t n i = IsOne id (w ∙ ap OfInstance ((equal_or j k true t).0 refl)) e n (index_is c.index (Some id) i)

      go : (o : Owner) → c.owner ≡ o
          → (elim o as (λ o. Bool) [
            | OfResource n ↦ nat_lt n (length y.resources) && same_component c (component_at y.resources n)
            | OfInstance j ↦ nat_eq j k && is_among c.variable (names_of y k) && same_index c.index (nth y.ids k)
            | Unowned ↦ false
          ]) ≡ true → Whose k c
      go (OfResource n) w h =
          let p = and_parts (nat_lt n (length y.resources)) (same_component c (component_at y.resources n)) h in
          let r = nth_there y.resources n p.0 in
          let q = same_is c (component_at y.resources n) p.1 in
          IsShared n r.0 w r.1 (q.0 ∙ ap (λ d. d.variable) (component_there y.resources n r.0 r.1)) (q.1 ∙ ap (λ d. d.index) (component_there y.resources n r.0 r.1))
      go (OfInstance j) w h =
          let p = and_parts (nat_eq j k && is_among c.variable (names_of y k)) (same_index c.index (nth y.ids k)) h in
          let q = and_parts (nat_eq j k) (is_among c.variable (names_of y k)) p.0 in
          mine j (nth y.ids k) w refl q.0 q.1 p.1
      go Unowned w h = absurd (grind (arith, h))

  pub is_part : (k : ℕ) (c : Component) → Whose k c → IsPart y c.variable c.index
  is_part k c (IsShared n r w at_n v i) = OfShared n r at_n v i
  is_part k c (IsOne id w at_k n i) = OfOne k id at_k n i

  -- the test of a list of changes, taken apart
  pub record First (k : ℕ) (c : Change) (cs : List Change) : Type 0 where
    pub alone : is_component_among c.component (map (λ d. d.component) cs) ≡ false
    pub is_of : is_component_of y k c.component ≡ true
    pub behind : are_components_of y k cs ≡ true

  pub first : (k : ℕ) (c : Change) (cs : List Change) → are_components_of y k (c ∷ cs) ≡ true → First k c cs
  first k c cs h = go (is_component_among c.component (map (λ d. d.component) cs)) refl h
    where
      go : (b : Bool) → is_component_among c.component (map (λ d. d.component) cs) ≡ b → (if b then false else is_component_of y k c.component && are_components_of y k cs) ≡ true → First k c cs
      go true e h = absurd (grind (arith, h))
      go false e h = let p = and_parts (is_component_of y k c.component) (are_components_of y k cs) h in record { alone = e; is_of = p.0; behind = p.1 }

  pub comparable : (k : ℕ) (d : Component) (cs : List Change) → IsPart y d.variable d.index → are_components_of y k cs ≡ true → Comparable d cs
  comparable k d [] p h = tt
  comparable k d (c ∷ cs) p h = let f = first k c cs h in (compared d c.component p (is_part k c.component (whose k c.component f.is_of)), comparable k d cs p f.behind)

  in_there : (c : Component) (s : Vars) → is_in c s ≡ true → (w : Data) × (content c s ≡ Some w)
  in_there c s h = go (content c s) h
    where
      go : (o : Option Data) → is_some o ≡ true → (w : Data) × (o ≡ Some w)
      go None h = absurd (grind (arith, h))
      go (Some w) h = (w, refl)

  -- what is a component of the layout is in its states
  pub part_in : (c : Component) (s : Vars) → HasAll y s → IsPart y c.variable c.index → (w : Data) × (content c s ≡ Some w)
  part_in c s has (OfShared n r at_n v i) =
      let there = component_there y.resources n r at_n in
      let q = in_there (component_at y.resources n) s (has.resources n r at_n) in
      (q.0, (λ j. content (record { variable = v j; index = i j; owner = OfResource n }) s) ∙ sym (ap (λ d. content d s) there) ∙ q.1)
  part_in c s has (OfOne k id at_k n i) =
      let q = in_there (own_component k id c.variable) s (has.own k id c.variable at_k n) in
      (q.0, (λ j. content (record { variable = c.variable; index = i j; owner = OfInstance k }) s) ∙ q.1)

  pub each_there : (k : ℕ) (s : Vars) (cs : List Change) → HasAll y s → are_components_of y k cs ≡ true → EachThere s cs
  each_there k s [] has h = tt
  each_there k s (c ∷ cs) has h =
      let f = first k c cs h in let p = is_part k c.component (whose k c.component f.is_of) in
      (comparable k c.component cs p f.behind, part_in c.component s has p, each_there k s cs has f.behind)
