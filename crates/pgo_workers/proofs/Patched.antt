-- An entry of one instance leads to a state in which what it changes has become so, and all else is as before.
use Rattle.std.proofs.Common.{◌≡◌, ℕ, Bool, true, false, List, [], ◌∷◌, map, Option, Some, None, refl, sym, ap, ◌∙◌, subst, arith}
use Rattle.std.specs.Prelude.{if◌then◌else◌, nat_eq, ◌&&◌, is_some, unwrap_or}
use Rattle.std.proofs.lemmas.Option.{same_Some}
use Rattle.pgo_base.specs.Data.{Data}
use Rattle.pgo_base.specs.Lookup.{Name, Vars, same_name}
use Rattle.pgo_model.specs.Core.{same_index}
use Rattle.pgo_model.specs.Log.{OfResource, OfInstance, Unowned, Component, Change, Effect, After, content, is_in, after_changes}
use Rattle.pgo_model.specs.Machine.{nth}
use Rattle.pgo_model.specs.MachineAccounts.{equal_or}
use Rattle.pgo_model.specs.Names.{is_among}
use Rattle.pgo_model.specs.Options.{on}
use Rattle.pgo_model.specs.System.{Resource}
use Rattle.pgo_workers.specs.View.{changed}
use Rattle.pgo_workers.specs.Worlds.{Layout, IsLayout, HasAll, or_nothing, own_component, names_at, names_of, own_at, own_change, own_behind, resource_changes, same_component, is_component_among, are_components_of, world_of}
use Rattle.pgo_workers.proofs.Components.{index_self, same_made, apart_turned, apart_not_same}
use Rattle.pgo_workers.proofs.Applied.{given_by, or_that, Applied, applied}
use Rattle.pgo_workers.proofs.LayoutChanges.{nth_there, component_there, own_name_here, own_name_behind, IsPart, OfShared, OfOne, Whose, IsShared, IsOne, whose, First, first, comparable, part_in, each_there, apart_names, shared_apart, ones_apart}

-- what the later changes don't have isn't given by them
given_none : (d c : Component) (cs : List Change) → d.variable ≡ c.variable → d.index ≡ c.index → is_component_among c (map (λ d. d.component) cs) ≡ false → given_by d cs ≡ None
given_none d c [] v i h = refl
given_none d c (e ∷ cs) v i h = go (same_component c e.component) refl h (λ h. given_none d c cs v i h)
  where
    rest : same_component c e.component ≡ false → given_by d cs ≡ None → given_by d (e ∷ cs) ≡ None
    rest f g =
        let q : same_component d e.component ≡ false = (λ j. same_name (v j) e.component.variable && same_index (i j) e.component.index) ∙ f in
        (λ j. on (if q j then Some e.value else None) (g j) (λ v. Some v))

    go : (b : Bool) → same_component c e.component ≡ b → (if b then true else is_component_among c (map (λ d. d.component) cs)) ≡ false → (is_component_among c (map (λ d. d.component) cs) ≡ false → given_by d cs ≡ None) → given_by d (e ∷ cs) ≡ None
    go true f h ih = absurd (grind (arith, h))
    go false f h ih = rest f (ih h)

in_some : (o : Option Data) (w : Data) (g : Option Data) → o ≡ Some w → is_some (or_that o g) ≡ true
in_some o w None e = ap is_some e
in_some o w (Some v) e = refl

value_some : (o : Option Data) (w : Data) (g : Option Data) → o ≡ Some w → or_nothing (or_that o g) ≡ on (or_nothing o) g (λ v. v)
value_some o w None e = refl
value_some o w (Some v) e = refl

-- ---- lists of names

-- what holds of each of these names
abbrev EachName : (Name → Type 0) → List Name → Type 0
EachName P [] = Unit {0}
EachName P (x ∷ xs) = P x × EachName P xs

each_name : (P : Name → Type 0) (xs : List Name) → ((x : Name) → is_among x xs ≡ true → P x) → EachName P xs
each_name P [] h = tt
each_name P (x ∷ xs) h = (h x (own_name_here x x xs refl), each_name P xs (λ z e. h z (own_name_behind z x xs e)))

own_behind_is : (k : ℕ) (id : Data) (s t : Vars) (e : Effect) (xs : List Name)
    → EachName (λ x. or_nothing (content (own_component k id x) t) ≡ on (or_nothing (content (own_component k id x) s)) (own_change x e.changes) (λ v. v)) xs → own_at k id xs t ≡ own_behind (own_at k id xs s) e
own_behind_is k id s t e [] h = refl
own_behind_is k id s t e (x ∷ xs) h = λ i. (x, h.0 i) ∷ own_behind_is k id s t e xs h.1 i

own_same : (k : ℕ) (id : Data) (s t : Vars) (xs : List Name) → EachName (λ x. content (own_component k id x) t ≡ content (own_component k id x) s) xs → own_at k id xs t ≡ own_at k id xs s
own_same k id s t [] h = refl
own_same k id s t (x ∷ xs) h = λ i. (x, or_nothing (h.0 i)) ∷ own_same k id s t xs h.1 i

module _ (y : Layout) (layout : IsLayout y) (k : ℕ) where
  -- ---- what the changes give

  given_shared : (n : ℕ) (r : Resource) → nth y.resources n ≡ Some r → (cs : List Change) → are_components_of y k cs ≡ true → (x : Data)
      → changed (resource_changes cs) n x ≡ on x (given_by (record { variable = r.global; index = r.index; owner = OfResource n }) cs) (λ v. v)
  given_shared n r at_n [] h x = refl
  given_shared n r at_n (c ∷ cs) h x = let f = first y layout k c cs h in go f (whose y layout k c.component f.is_of) (given_shared n r at_n cs f.behind x)
    where
      d : Component
      d = record { variable = r.global; index = r.index; owner = OfResource n }

      over : same_component d c.component ≡ false → changed (resource_changes (c ∷ cs)) n x ≡ changed (resource_changes cs) n x → changed (resource_changes cs) n x ≡ on x (given_by d cs) (λ v. v)
          → changed (resource_changes (c ∷ cs)) n x ≡ on x (given_by d (c ∷ cs)) (λ v. v)
      over q e ih = e ∙ ih ∙ sym (ap (λ b. on x (on (if b then Some c.value else None) (given_by d cs) (λ v. Some v)) (λ v. v)) q ∙ same (given_by d cs))
        where
          same : (o : Option Data) → on x (on None o (λ v. Some v)) (λ v. v) ≡ on x o (λ v. v)
          same None = refl
          same (Some v) = refl

      go : First y layout k c cs → Whose y layout k c.component → changed (resource_changes cs) n x ≡ on x (given_by d cs) (λ v. v) → changed (resource_changes (c ∷ cs)) n x ≡ on x (given_by d (c ∷ cs)) (λ v. v)
      go f (IsOne id w at_k named i) ih =
          over (apart_not_same d c.component (apart_names y layout d c.component k (layout.none_own n k r at_n) named))
          (ap (λ o. changed (elim o as (λ o. List Rattle.pgo_workers.specs.Walk.At) [ OfResource n ↦ (n, c.value) ∷ resource_changes cs | OfInstance n ↦ resource_changes cs | Unowned ↦ resource_changes cs ]) n x) w) ih
      go f (IsShared m q w at_m vc ic) ih = here (nat_eq m n) refl
        where
          opened : changed (resource_changes (c ∷ cs)) n x ≡ (if nat_eq m n then c.value else changed (resource_changes cs) n x)
          opened = ap (λ o. changed (elim o as (λ o. List Rattle.pgo_workers.specs.Walk.At) [ OfResource n ↦ (n, c.value) ∷ resource_changes cs | OfInstance n ↦ resource_changes cs | Unowned ↦ resource_changes cs ]) n x) w

          here : (b : Bool) → nat_eq m n ≡ b → changed (resource_changes (c ∷ cs)) n x ≡ on x (given_by d (c ∷ cs)) (λ v. v)
          here true e =
              let same : q ≡ r = same_Some q r (sym at_m ∙ ap (nth y.resources) ((equal_or m n true e).0 refl) ∙ at_n) in
              let v : d.variable ≡ c.component.variable = sym (vc ∙ ap (λ r. r.global) same) in
              let i : d.index ≡ c.component.index = sym (ic ∙ ap (λ r. r.index) same) in
              opened ∙ ap (λ b. if b then c.value else changed (resource_changes cs) n x) e
              ∙ sym ((λ j. on x (on (if same_made d c.component v i j then Some c.value else None) (given_none d c.component cs v i f.alone j) (λ v. Some v)) (λ v. v)))
          here false e =
              over (apart_not_same d c.component (shared_apart y layout d c.component n m r q at_n at_m refl refl vc ic (λ z. (equal_or m n false e).1 refl (sym z))))
              (opened ∙ ap (λ b. if b then c.value else changed (resource_changes cs) n x) e) ih

  given_own : (id : Data) (x : Name) → nth y.ids k ≡ Some id → is_among x (names_of y k) ≡ true → (cs : List Change) → are_components_of y k cs ≡ true → given_by (own_component k id x) cs ≡ own_change x cs
  given_own id x at_k named [] h = refl
  given_own id x at_k named (c ∷ cs) h = let f = first y layout k c cs h in go (whose y layout k c.component f.is_of) (given_own id x at_k named cs f.behind)
    where
      d : Component
      d = own_component k id x

      and_true : (a b : Bool) → b ≡ true → a && b ≡ a
      and_true true b e = e
      and_true false b e = refl

      go : Whose y layout k c.component → given_by d cs ≡ own_change x cs → given_by d (c ∷ cs) ≡ own_change x (c ∷ cs)
      go (IsShared n r w at_n v i) ih =
          let q = apart_not_same d c.component (apart_turned c.component d (apart_names y layout c.component d k (subst (λ z. is_among z (names_of y k) ≡ false) (sym v) (layout.none_own n k r at_n)) named)) in
          (λ j. on (if q j then Some c.value else None) (ih j) (λ v. Some v))
          ∙ sym (ap (λ o. on (elim o as (λ o. Option Data) [ OfResource n ↦ None | OfInstance n ↦ if same_name x c.component.variable then Some c.value else None | Unowned ↦ None ]) (own_change x cs) (λ v. Some v)) w)
      go (IsOne a w at_k' named' i) ih =
          let e : Some id ≡ c.component.index = sym at_k ∙ at_k' ∙ sym i in
          let q : same_component d c.component ≡ same_name x c.component.variable = and_true (same_name x c.component.variable) (same_index (Some id) c.component.index) (subst (λ z. same_index (Some id) z ≡ true) e (index_self (Some id))) in
          (λ j. on (if q j then Some c.value else None) (ih j) (λ v. Some v))
          ∙ sym (ap (λ o. on (elim o as (λ o. Option Data) [ OfResource n ↦ None | OfInstance n ↦ if same_name x c.component.variable then Some c.value else None | Unowned ↦ None ]) (own_change x cs) (λ v. Some v)) w)

  given_not : (j : ℕ) (id : Data) (x : Name) → nth y.ids j ≡ Some id → is_among x (names_of y j) ≡ true → (j ≡ k → ⊥) → (cs : List Change) → are_components_of y k cs ≡ true → given_by (own_component j id x) cs ≡ None
  given_not j id x at_j named ne [] h = refl
  given_not j id x at_j named ne (c ∷ cs) h =
      let f = first y layout k c cs h in let q = apart (whose y layout k c.component f.is_of) in
      (λ i. on (if q i then Some c.value else None) (given_not j id x at_j named ne cs f.behind i) (λ v. Some v))
    where
      apart : Whose y layout k c.component → same_component (own_component j id x) c.component ≡ false
      apart (IsShared n r w at_n v i) =
          apart_not_same (own_component j id x) c.component (apart_turned c.component (own_component j id x) (apart_names y layout c.component (own_component j id x) j (subst (λ z. is_among z (names_of y j) ≡ false) (sym v) (layout.none_own n j r at_n)) named))
      apart (IsOne a w at_k named' i) = apart_not_same (own_component j id x) c.component (ones_apart y layout (own_component j id x) c.component j k id a at_j at_k refl i ne)

  module _ (s : Vars) (has : HasAll y s) (d : Effect) (mine : (world_of y).is_of k d ≡ true) where
    all : (t : Vars) × Applied d.changes s t
    all = applied d.changes s (each_there y layout k s d.changes has mine)

    -- the state behind it is there
    pub after_is : After s d ≡ Some ((world_of y).patched s d)
    after_is = there ∙ ap Some (sym (ap (λ o. unwrap_or o s) there))
      where
        there : After s d ≡ Some all.0
        there = ap (λ b. if b then after_changes d.changes s else None) all.1.present ∙ all.1.there

    patched_is : (world_of y).patched s d ≡ all.0
    patched_is = same_Some ((world_of y).patched s d) all.0 (sym after_is ∙ ap (λ b. if b then after_changes d.changes s else None) all.1.present ∙ all.1.there)

    -- its variables are the same
    pub patched_names : map (λ p. p.0) ((world_of y).patched s d) ≡ map (λ p. p.0) s
    patched_names = ap (map (λ p. p.0)) patched_is ∙ all.1.names

    content_behind : (c : Component) → IsPart y c.variable c.index → content c ((world_of y).patched s d) ≡ or_that (content c s) (given_by c d.changes)
    content_behind c p = ap (content c) patched_is ∙ all.1.contents c (comparable y layout k c d.changes p mine)

    in_behind : (c : Component) → IsPart y c.variable c.index → is_in c ((world_of y).patched s d) ≡ true
    in_behind c p = let w = part_in y layout c s has p in ap is_some (content_behind c p) ∙ in_some (content c s) w.0 (given_by c d.changes) w.1

    pub patched_has : HasAll y ((world_of y).patched s d)
    patched_has = record {
      resources = λ n r at_n. ap (λ c. is_in c ((world_of y).patched s d)) (component_there y.resources n r at_n) ∙ in_behind (record { variable = r.global; index = r.index; owner = OfResource n }) (OfShared n r at_n refl refl);
      own = λ j id x at_j named. in_behind (own_component j id x) (OfOne j id at_j named refl);
    }

    -- resources
    pub patched_value : (r : ℕ) → (world_of y).is_resource r ≡ true → (world_of y).value ((world_of y).patched s d) r ≡ changed ((world_of y).changes d) r ((world_of y).value s r)
    patched_value n e =
        let r = nth_there y.resources n e in
        let c : Component = record { variable = r.0.global; index = r.0.index; owner = OfResource n } in
        let at_c = component_there y.resources n r.0 r.1 in
        let p : IsPart y r.0.global r.0.index = OfShared n r.0 r.1 refl refl in
        let w = part_in y layout c s has p in
        ap (λ c. or_nothing (content c ((world_of y).patched s d))) at_c ∙ ap or_nothing (content_behind c p)
        ∙ value_some (content c s) w.0 (given_by c d.changes) w.1
        ∙ sym (given_shared n r.0 r.1 d.changes mine (or_nothing (content c s)))
        ∙ ap (λ c. changed (resource_changes d.changes) n (or_nothing (content c s))) (sym at_c)

    -- the instance's own components
    pub patched_own : (world_of y).own ((world_of y).patched s d) k ≡ (world_of y).owned ((world_of y).own s k) d
    patched_own = go (nth y.ids k) refl
      where
        go : (o : Option Data) → nth y.ids k ≡ o
            → on [] o (λ id. own_at k id (names_at y (Some id)) ((world_of y).patched s d)) ≡ own_behind (on [] o (λ id. own_at k id (names_at y (Some id)) s)) d
        go None e = refl
        go (Some id) e =
            own_behind_is k id s ((world_of y).patched s d) d (names_at y (Some id))
            (each_name (λ x. or_nothing (content (own_component k id x) ((world_of y).patched s d)) ≡ on (or_nothing (content (own_component k id x) s)) (own_change x d.changes) (λ v. v)) (names_at y (Some id)) (λ x named.
            let there : is_among x (names_of y k) ≡ true = ap (λ o. is_among x (names_at y o)) e ∙ named in
            let p : IsPart y x (Some id) = OfOne k id e there refl in
            let w = part_in y layout (own_component k id x) s has p in
            ap or_nothing (content_behind (own_component k id x) p)
            ∙ value_some (content (own_component k id x) s) w.0 (given_by (own_component k id x) d.changes) w.1
            ∙ ap (λ g. on (or_nothing (content (own_component k id x) s)) g (λ v. v)) (given_own id x e there d.changes mine)))

    -- those of the others are as they were
    pub patched_else : (j : ℕ) → (j ≡ k → ⊥) → (world_of y).own ((world_of y).patched s d) j ≡ (world_of y).own s j
    patched_else j ne = go (nth y.ids j) refl
      where
        go : (o : Option Data) → nth y.ids j ≡ o
            → on [] o (λ id. own_at j id (names_at y (Some id)) ((world_of y).patched s d)) ≡ on [] o (λ id. own_at j id (names_at y (Some id)) s)
        go None e = refl
        go (Some id) e =
            own_same j id s ((world_of y).patched s d) (names_at y (Some id))
            (each_name (λ x. content (own_component j id x) ((world_of y).patched s d) ≡ content (own_component j id x) s) (names_at y (Some id)) (λ x named.
            let there : is_among x (names_of y j) ≡ true = ap (λ o. is_among x (names_at y o)) e ∙ named in
            content_behind (own_component j id x) (OfOne j id e there refl) ∙ ap (or_that (content (own_component j id x) s)) (given_not j id x e there ne d.changes mine)))
