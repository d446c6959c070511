-- The entry that a worker makes changes components of resources and of its instance alone, each once.
use Rattle.std.proofs.Common.{◌≡◌, ℕ, Bool, true, false, List, [], ◌∷◌, ◌++◌, length, map, Option, Some, None, refl, sym, ap, ◌∙◌, subst, arith}
use Rattle.std.specs.Prelude.{if◌then◌else◌, nat_eq, nat_lt, ◌&&◌}
use Rattle.pgo_base.specs.Data.{Data}
use Rattle.pgo_base.specs.Lookup.{Name, Vars, find}
use Rattle.pgo_model.specs.Core.{same_index}
use Rattle.pgo_model.specs.Log.{OfResource, Component, Change, differs}
use Rattle.pgo_model.specs.Machine.{nth, among}
use Rattle.pgo_model.specs.MachineAccounts.{equal_or}
use Rattle.pgo_model.specs.Names.{is_among}
use Rattle.pgo_model.specs.Options.{on}
use Rattle.pgo_model.specs.System.{Resource}
use Rattle.pgo_workers.specs.Walk.{At, Own}
use Rattle.pgo_workers.specs.View.{Hold, EachHold, Once, places, resources_of}
use Rattle.pgo_workers.specs.Worker.{changes_of}
use Rattle.pgo_workers.specs.Sentences.{IsOwn}
use Rattle.pgo_workers.specs.Worlds.{Layout, IsLayout, HasAll, component_at, own_component, names_of, resource_change, changed_resources, changed_own, effect_of, same_component, is_component_among, is_component_of, are_components_of, world_of}
use Rattle.pgo_workers.proofs.Components.{index_self, same_made, apart_not_same}
use Rattle.pgo_workers.proofs.LayoutChanges.{Differ, they_differ, nth_there, component_there, own_name_here, own_name_behind, apart_names, shared_apart}
use Rattle.pgo_workers.proofs.MadeEntries.{EachAt, changed_each, changed_once, owned}
use Rattle.pgo_workers.proofs.Patched.{patched_own}

-- what holds of the component of each change
abbrev pub EachComponent : (Component → Type 0) → List Change → Type 0
EachComponent P [] = Unit {0}
EachComponent P (c ∷ cs) = P c.component × EachComponent P cs

each_joined : (P : Component → Type 0) (ds cs : List Change) → EachComponent P ds → EachComponent P cs → EachComponent P (ds ++ cs)
each_joined P [] cs a b = b
each_joined P (c ∷ ds) cs a b = (a.0, each_joined P ds cs a.1 b)

not_among : (c : Component) (cs : List Change) → EachComponent (λ d. same_component c d ≡ false) cs → is_component_among c (map (λ d. d.component) cs) ≡ false
not_among c [] h = refl
not_among c (d ∷ cs) h = ap (λ b. if b then true else is_component_among c (map (λ d. d.component) cs)) h.0 ∙ not_among c cs h.1

module _ (y : Layout) (layout : IsLayout y) (k : ℕ) where
  one_more : (c : Change) (cs : List Change) → EachComponent (λ d. same_component c.component d ≡ false) cs → is_component_of y k c.component ≡ true → are_components_of y k cs ≡ true → are_components_of y k (c ∷ cs) ≡ true
  one_more c cs n h r = (λ i. if not_among c.component cs n i then false else h i && are_components_of y k cs) ∙ r

  -- ---- own components
  module _ (id : Data) (at_k : nth y.ids k ≡ Some id) (next : Own) where
    own_each : (P : Component → Type 0) (o : Own) → ((x : Name) → is_among x (map (λ p. p.0) o) ≡ true → P (own_component k id x)) → EachComponent P (changed_own k id o next)
    own_each P [] h = tt
    own_each P (p ∷ o) h = go (find p.0 next) (own_each P o (λ x n. h x (own_name_behind x p.0 (map (λ p. p.0) o) n)))
      where
        go : (found : Option Data) → EachComponent P (changed_own k id o next)
            → EachComponent P (on (changed_own k id o next) found (λ v. if differs (Some p.1) (Some v) then record { component = own_component k id p.0; value = v } ∷ changed_own k id o next else changed_own k id o next))
        go None ih = ih
        go (Some v) ih = by_case (differs (Some p.1) (Some v))
          where
            by_case : (b : Bool) → EachComponent P (if b then record { component = own_component k id p.0; value = v } ∷ changed_own k id o next else changed_own k id o next)
            by_case true = (h p.0 (own_name_here p.0 p.0 (map (λ p. p.0) o) refl), ih)
            by_case false = ih

    other_name : (x z : Name) (xs : List Name) → is_among x xs ≡ false → is_among z xs ≡ true → same_component (own_component k id x) (own_component k id z) ≡ false
    other_name x z xs m n = Rattle.pgo_workers.proofs.Components.not_true (same_component (own_component k id x) (own_component k id z)) (λ e.
        let same : x ≡ z = (Rattle.pgo_workers.proofs.Components.same_is (own_component k id x) (own_component k id z) e).0 in
        Rattle.pgo_workers.proofs.Components.not_both (is_among x xs) (subst (λ x. is_among x xs ≡ true) (sym same) n) m)

    own_is_of : (x : Name) → is_among x (names_of y k) ≡ true → is_component_of y k (own_component k id x) ≡ true
    own_is_of x n =
        let self : nat_eq k k ≡ true = grind arith in
        (λ i. (self i && n i) && same_index (Some id) (at_k i)) ∙ index_self (Some id)

    own_are : (o : Own) → Differ (map (λ p. p.0) o) → ((x : Name) → is_among x (map (λ p. p.0) o) ≡ true → is_among x (names_of y k) ≡ true) → are_components_of y k (changed_own k id o next) ≡ true
    own_are [] d h = refl
    own_are (p ∷ o) d h = go (find p.0 next) (own_are o d.1 (λ x n. h x (own_name_behind x p.0 (map (λ p. p.0) o) n)))
        (own_each (λ c. same_component (own_component k id p.0) c ≡ false) o (λ x n. other_name p.0 x (map (λ p. p.0) o) d.0 n))
      where
        go : (found : Option Data) → are_components_of y k (changed_own k id o next) ≡ true → EachComponent (λ c. same_component (own_component k id p.0) c ≡ false) (changed_own k id o next)
            → are_components_of y k (on (changed_own k id o next) found (λ v. if differs (Some p.1) (Some v) then record { component = own_component k id p.0; value = v } ∷ changed_own k id o next else changed_own k id o next)) ≡ true
        go None ih e = ih
        go (Some v) ih e = by_case (differs (Some p.1) (Some v))
          where
            by_case : (b : Bool) → are_components_of y k (if b then record { component = own_component k id p.0; value = v } ∷ changed_own k id o next else changed_own k id o next) ≡ true
            by_case true = one_more (record { component = own_component k id p.0; value = v }) (changed_own k id o next) e (own_is_of p.0 (h p.0 (own_name_here p.0 p.0 (map (λ p. p.0) o) refl))) ih
            by_case false = ih

  -- ---- resources

  -- the component of a resource
  abbrev pub resource_at : ℕ → Resource → Component
  resource_at n r = record { variable = r.global; index = r.index; owner = OfResource n }

  resources_each : (P : Component → Type 0) (n : ℕ) (vs : List At) → among n (places vs) ≡ false → EachAt (λ v. nat_lt v.0 (length y.resources) ≡ true) vs
      → ((m : ℕ) (r : Resource) → nth y.resources m ≡ Some r → (n ≡ m → ⊥) → P (resource_at m r)) → EachComponent P (map (resource_change y) vs)
  resources_each P n [] m e h = tt
  resources_each P n (v ∷ vs) m e h = go (nat_eq n v.0) refl m (λ m. resources_each P n vs m e.1 h)
    where
      go : (b : Bool) → nat_eq n v.0 ≡ b → (if b then true else among n (places vs)) ≡ false → (among n (places vs) ≡ false → EachComponent P (map (resource_change y) vs)) → EachComponent P (map (resource_change y) (v ∷ vs))
      go true q m ih = absurd (grind (arith, m))
      go false q m ih =
          let r = nth_there y.resources v.0 e.0 in
          (subst P (sym (component_there y.resources v.0 r.0 r.1)) (h v.0 r.0 r.1 ((equal_or n v.0 false q).1 refl)), ih m)

  resources_are : (vs : List At) (cs : List Change) → Once (places vs) → EachAt (λ v. nat_lt v.0 (length y.resources) ≡ true) vs
      → EachComponent (λ d. (c : Component) (n : ℕ) (r : Resource) → nth y.resources n ≡ Some r → c.variable ≡ r.global → same_component c d ≡ false) cs → are_components_of y k cs ≡ true
      → are_components_of y k (map (resource_change y) vs ++ cs) ≡ true
  resources_are [] cs o e a h = h
  resources_are (v ∷ vs) cs o e a h =
      let r = nth_there y.resources v.0 e.0 in
      let at = component_there y.resources v.0 r.0 r.1 in
      one_more (resource_change y v) (map (resource_change y) vs ++ cs)
      (subst (λ c. EachComponent (λ d. same_component c d ≡ false) (map (resource_change y) vs ++ cs)) (sym at)
      (each_joined (λ d. same_component (resource_at v.0 r.0) d ≡ false) (map (resource_change y) vs) cs
      (resources_each (λ d. same_component (resource_at v.0 r.0) d ≡ false) v.0 vs o.0 e.1 (λ m q at_m ne.
      apart_not_same (resource_at v.0 r.0) (resource_at m q) (shared_apart y layout (resource_at v.0 r.0) (resource_at m q) v.0 m r.0 q r.1 at_m refl refl refl refl ne)))
      (own_apart (resource_at v.0 r.0) v.0 r.0 r.1 refl cs a)))
      (is_of v.0 r.0 at e.0) (resources_are vs cs o.1 e.1 a h)
    where
      own_apart : (c : Component) (n : ℕ) (r : Resource) → nth y.resources n ≡ Some r → c.variable ≡ r.global → (cs : List Change)
          → EachComponent (λ d. (c : Component) (n : ℕ) (r : Resource) → nth y.resources n ≡ Some r → c.variable ≡ r.global → same_component c d ≡ false) cs → EachComponent (λ d. same_component c d ≡ false) cs
      own_apart c n r at_n vc [] a = tt
      own_apart c n r at_n vc (d ∷ cs) a = (a.0 c n r at_n vc, own_apart c n r at_n vc cs a.1)

      is_of : (n : ℕ) (r : Resource) → component_at y.resources n ≡ resource_at n r → nat_lt n (length y.resources) ≡ true → is_component_of y k (component_at y.resources n) ≡ true
      is_of n r at e = ap (is_component_of y k) at ∙ (λ i. e i && same_component (resource_at n r) (at i)) ∙ same_made (resource_at n r) (resource_at n r) refl refl

  pub is_of : (o o' : Own) (hs : List Hold) (ps : List Data) → IsOwn (world_of y) k o → IsOwn (world_of y) k o' → Once (resources_of hs) → EachHold (λ h. (world_of y).is_resource h.resource ≡ true) hs
      → (world_of y).is_of k (effect_of y k o o' (changes_of hs) ps) ≡ true
  is_of o o' hs ps own own' once are =
      let own_part = mine (nth y.ids k) refl in
      resources_are (changed_resources (changes_of hs)) (on [] (nth y.ids k) (λ id. changed_own k id o o')) (changed_once hs once) (changed_each (λ v. nat_lt v.0 (length y.resources) ≡ true) hs are) own_part.0 own_part.1
    where
      mine : (i : Option Data) → nth y.ids k ≡ i
          → EachComponent (λ d. (c : Component) (n : ℕ) (r : Resource) → nth y.resources n ≡ Some r → c.variable ≡ r.global → same_component c d ≡ false) (on [] i (λ id. changed_own k id o o'))
          × (are_components_of y k (on [] i (λ id. changed_own k id o o')) ≡ true)
      mine None e = (tt, refl)
      mine (Some id) e = (
        own_each id e o' (λ d. (c : Component) (n : ℕ) (r : Resource) → nth y.resources n ≡ Some r → c.variable ≡ r.global → same_component c d ≡ false) o
            (λ x named c n r at_n vc.
            apart_not_same c (own_component k id x) (apart_names y layout c (own_component k id x) k (subst (λ z. is_among z (names_of y k) ≡ false) (sym vc) (layout.none_own n k r at_n)) (subst (λ xs. is_among x xs ≡ true) own named))),
        own_are id e o' o (subst Differ (sym own) (they_differ (names_of y k) (layout.names_differ k))) (λ x named. subst (λ xs. is_among x xs ≡ true) own named),
      )

  -- the own components behind the entry
  pub own_patched : (s : Vars) (o o' : Own) (hs : List Hold) (ps : List Data) → HasAll y s → IsOwn (world_of y) k o' → Once (resources_of hs) → EachHold (λ h. (world_of y).is_resource h.resource ≡ true) hs → (world_of y).own s k ≡ o
      → EachHold (λ h. (world_of y).value s h.resource ≡ h.content.base) hs → (world_of y).own ((world_of y).patched s (effect_of y k o o' (changes_of hs) ps)) k ≡ o'
  own_patched s o o' hs ps has own' once are at bases =
      let own : IsOwn (world_of y) k o = subst (IsOwn (world_of y) k) at (Rattle.pgo_workers.proofs.MadeEntries.own_is y k s) in
      patched_own y layout k s has (effect_of y k o o' (changes_of hs) ps) (is_of o o' hs ps own own' once are)
      ∙ ap (λ a. (world_of y).owned a (effect_of y k o o' (changes_of hs) ps)) at ∙ owned y layout k o o' (changes_of hs) ps own own'
