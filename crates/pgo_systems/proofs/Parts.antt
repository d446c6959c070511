-- The components of a system, and that the changes between two states lead from the one to a state with the contents of the other.
use Rattle.std.proofs.Common.{◌≡◌, ◌⊎◌, ℕ, zero, suc, Bool, true, false, if◌then◌else◌, List, [], ◌∷◌, map, Option, Some, None, refl, sym, ap, ◌∙◌, subst, option_and_then, inl, inr, ⊎_elim}
use Rattle.std.specs.Prelude.{not}
use Rattle.std.proofs.lemmas.Option.{same_Some}
use Rattle.pgo_base.specs.Data.{Data}
use Rattle.pgo_base.specs.Lookup.{Name, Vars, find}
use Rattle.pgo_model.specs.Log.{Component, Change, OfResource, OfInstance, content, differs, resource_components, parts_at, own_names, own_components, components_of, changes_between}
use Rattle.pgo_model.specs.Machine.{nth}
use Rattle.pgo_model.specs.Names.{is_among}
use Rattle.pgo_model.specs.Operators.{same_data}
use Rattle.pgo_model.specs.Options.{on}
use Rattle.pgo_model.specs.System.{System, Member, Owned, Resource}
use Rattle.pgo_model.specs.Written.{pc}
use Rattle.pgo_bound.specs.Among.{IsAmong, among_append, among_left, among_right}
use Rattle.pgo_bound.specs.Lookups.{same_of}
use Rattle.pgo_workers.specs.Worlds.{Layout, layout_of, IsLayout, HasAll, names_at, same_component}
use Rattle.pgo_workers.proofs.Applied.{Comparable, EachThere, given_by, or_that}
use Rattle.pgo_workers.proofs.Components.{same_is, same_made}
use Rattle.pgo_workers.proofs.LayoutChanges.{IsPart, OfShared, OfOne, own_name_here, own_name_behind, compared, part_in}

-- ---- the components of a system

-- the component of a resource
pub resource_there : (rs : List Resource) (n : ℕ) (r : Resource) → nth rs n ≡ Some r → (c : Component) × IsAmong c (resource_components rs) × (c.variable ≡ r.global) × (c.index ≡ r.index)
resource_there [] n r h = absurd (cc)
resource_there (q ∷ rs) zero r h =
    let e = same_Some q r h in
    (record { variable = q.global; index = q.index; owner = OfResource q.number }, inl refl, ap (λ z. z.global) e, ap (λ z. z.index) e)
resource_there (q ∷ rs) (suc n) r h = let c = resource_there rs n r h in (c.0, inr c.1, c.2, c.3)

pub from_resources : (c : Component) (rs : List Resource) → IsAmong c (resource_components rs) → (n : ℕ) × (r : Resource) × (nth rs n ≡ Some r) × (c.variable ≡ r.global) × (c.index ≡ r.index)
from_resources c [] h = absurd h
from_resources c (q ∷ rs) (inl e) = (0, q, refl, ap (λ (z : Component). z.variable) e, ap (λ (z : Component). z.index) e)
from_resources c (q ∷ rs) (inr h) = let r = from_resources c rs h in (suc r.0, r.1, r.2, r.3, r.4)

part_among : (k : ℕ) (id : Data) (x : Name) (xs : List Name) → IsAmong x xs → IsAmong (record { variable = x; index = Some id; owner = OfInstance k }) (parts_at k id xs)
part_among k id x [] h = h
part_among k id x (y ∷ xs) (inl e) = inl (λ i. record { variable = e i; index = Some id; owner = OfInstance k })
part_among k id x (y ∷ xs) (inr h) = inr (part_among k id x xs h)

from_parts : (c : Component) (k : ℕ) (id : Data) (xs : List Name) → IsAmong c (parts_at k id xs) → IsAmong c.variable xs × (c.index ≡ Some id)
from_parts c k id [] h = absurd h
from_parts c k id (x ∷ xs) (inl e) = (inl (ap (λ (z : Component). z.variable) e), ap (λ (z : Component). z.index) e)
from_parts c k id (x ∷ xs) (inr h) = let r = from_parts c k id xs h in (inr r.0, r.1)

-- the component of an instance's own variable
pub own_there : (os : List Owned) (k : ℕ) (ms : List Member) (n : ℕ) (m : Member) (x : Name) → nth ms n ≡ Some m → IsAmong x (pc ∷ own_names m.id os) → (c : Component) × IsAmong c (own_components os k ms) × (c.variable ≡ x) × (c.index ≡ Some m.id)
own_there os k [] n m x h a = absurd (cc)
own_there os k (q ∷ ms) zero m x h a =
    let e = same_Some q m h in
    let b : IsAmong x (pc ∷ own_names q.id os) = subst (λ (z : Member). IsAmong x (pc ∷ own_names z.id os)) (sym e) a in (
      record { variable = x; index = Some q.id; owner = OfInstance k },
      among_left (record { variable = x; index = Some q.id; owner = OfInstance k }) (parts_at k q.id (pc ∷ own_names q.id os)) (own_components os (suc k) ms) (part_among k q.id x (pc ∷ own_names q.id os) b),
      refl,
      ap (λ (z : Member). Some z.id) e,
    )
own_there os k (q ∷ ms) (suc n) m x h a =
    let r = own_there os (suc k) ms n m x h a in
    (r.0, among_right r.0 (parts_at k q.id (pc ∷ own_names q.id os)) (own_components os (suc k) ms) r.1, r.2, r.3)

pub from_own : (c : Component) (os : List Owned) (k : ℕ) (ms : List Member) → IsAmong c (own_components os k ms) → (n : ℕ) × (m : Member) × (nth ms n ≡ Some m) × IsAmong c.variable (pc ∷ own_names m.id os) × (c.index ≡ Some m.id)
from_own c os k [] h = absurd h
from_own c os k (q ∷ ms) h =
    ⊎_elim (λ a. let r = from_parts c k q.id (pc ∷ own_names q.id os) a in (0, q, refl, r.0, r.1)) (λ a. let r = from_own c os (suc k) ms a in (suc r.0, r.1, r.2, r.3, r.4))
    (among_append c (parts_at k q.id (pc ∷ own_names q.id os)) (own_components os (suc k) ms) h)

nth_ids : (ms : List Member) (n : ℕ) (m : Member) → nth ms n ≡ Some m → nth (map (λ i. i.id) ms) n ≡ Some m.id
nth_ids [] n m h = absurd (cc)
nth_ids (q ∷ ms) zero m h = ap (λ (z : Member). Some z.id) (same_Some q m h)
nth_ids (q ∷ ms) (suc n) m h = nth_ids ms n m h

named : (x : Name) (xs : List Name) → IsAmong x xs → is_among x xs ≡ true
named x [] h = absurd h
named x (y ∷ xs) (inl e) = own_name_here x y xs e
named x (y ∷ xs) (inr h) = own_name_behind x y xs (named x xs h)

module _ (y : System) where
  -- each is a component of the layout
  pub component_part : (c : Component) → IsAmong c (components_of y) → IsPart (layout_of y) c.variable c.index
  component_part c h = ⊎_elim shared own (among_append c (resource_components y.resources) (own_components y.own 0 y.members) h)
    where
      shared : IsAmong c (resource_components y.resources) → IsPart (layout_of y) c.variable c.index
      shared a = let r = from_resources c y.resources a in OfShared r.0 r.1 r.2 r.3 r.4

      own : IsAmong c (own_components y.own 0 y.members) → IsPart (layout_of y) c.variable c.index
      own a =
          let r = from_own c y.own 0 y.members a in
          let at = nth_ids y.members r.0 r.1 r.2 in
          OfOne r.0 r.1.id at (ap (λ o. is_among c.variable (names_at (layout_of y) o)) at ∙ named c.variable (pc ∷ own_names r.1.id y.own) r.3) r.4

-- ---- the changes between two states

-- each is of a component, and has what the second state has there
pub change_from : (cs : List Component) (s t : Vars) (d : Change) → IsAmong d (changes_between cs s t) → IsAmong d.component cs × (content d.component t ≡ Some d.value)
change_from [] s t d h = absurd h
change_from (c ∷ cs) s t d h = go (content c t) refl h (change_from cs s t d)
  where
    more : IsAmong d.component cs × (content d.component t ≡ Some d.value) → IsAmong d.component (c ∷ cs) × (content d.component t ≡ Some d.value)
    more r = (inr r.0, r.1)

    by_test : (v : Data) → content c t ≡ Some v → (b : Bool) → IsAmong d (if b then record { component = c; value = v } ∷ changes_between cs s t else changes_between cs s t)
        → (IsAmong d (changes_between cs s t) → IsAmong d.component cs × (content d.component t ≡ Some d.value)) → IsAmong d.component (c ∷ cs) × (content d.component t ≡ Some d.value)
    by_test v e true (inl q) r =
        let k : d.component ≡ c = ap (λ (z : Change). z.component) q in
        (inl k, ap (λ z. content z t) k ∙ e ∙ ap Some (sym (ap (λ (z : Change). z.value) q)))
    by_test v e true (inr a) r = more (r a)
    by_test v e false a r = more (r a)

    go : (o : Option Data) → content c t ≡ o → IsAmong d (on (changes_between cs s t) o (λ v. if differs (content c s) o then record { component = c; value = v } ∷ changes_between cs s t else changes_between cs s t))
        → (IsAmong d (changes_between cs s t) → IsAmong d.component cs × (content d.component t ≡ Some d.value)) → IsAmong d.component (c ∷ cs) × (content d.component t ≡ Some d.value)
    go None e a r = more (r a)
    go (Some v) e a r = by_test v e (differs (content c s) (Some v)) a r

-- the last value of a component among changes is that of one of them
given_from : (d : Component) (cs : List Change) (v : Data) → given_by d cs ≡ Some v → (c : Change) × IsAmong c cs × (same_component d c.component ≡ true) × (c.value ≡ v)
given_from d [] v h = absurd (cc)
given_from d (c ∷ cs) v h = go (given_by d cs) refl h (given_from d cs v)
  where
    here : (b : Bool) → same_component d c.component ≡ b → (if b then Some c.value else None) ≡ Some v → (e : Change) × IsAmong e (c ∷ cs) × (same_component d e.component ≡ true) × (e.value ≡ v)
    here true q k = (c, inl refl, q, same_Some c.value v k)
    here false q k = absurd (cc)

    go : (o : Option Data) → given_by d cs ≡ o → on (if same_component d c.component then Some c.value else None) o (λ v. Some v) ≡ Some v
        → (given_by d cs ≡ Some v → (e : Change) × IsAmong e cs × (same_component d e.component ≡ true) × (e.value ≡ v)) → (e : Change) × IsAmong e (c ∷ cs) × (same_component d e.component ≡ true) × (e.value ≡ v)
    go None q k r = here (same_component d c.component) refl k
    go (Some w) q k r = let z = r (q ∙ k) in (z.0, inr z.1, z.2, z.3)

-- of a component of which there is no change both states have the same
none_given : (d : Component) (cs : List Component) (s t : Vars) (w : Data) → content d t ≡ Some w → IsAmong d cs → given_by d (changes_between cs s t) ≡ None → content d s ≡ content d t
none_given d [] s t w there h n = absurd h
none_given d (c ∷ cs) s t w there h n = go h (content c t) refl n (λ a k. none_given d cs s t w there a k)
  where
    behind : (b : Bool) (v : Data) → on (if same_component d c then Some v else None) (given_by d (changes_between cs s t)) (λ v. Some v) ≡ None → given_by d (changes_between cs s t) ≡ None
    behind b v k = last (given_by d (changes_between cs s t)) k
      where
        last : (o : Option Data) → on (if same_component d c then Some v else None) o (λ v. Some v) ≡ None → o ≡ None
        last None k = refl
        last (Some z) k = absurd (cc)

    not_here : (v : Data) → d ≡ c → on (if same_component d c then Some v else None) (given_by d (changes_between cs s t)) (λ v. Some v) ≡ None → ⊥
    not_here v e k = last (same_component d c) (same_made d c (ap (λ (z : Component). z.variable) e) (ap (λ (z : Component). z.index) e)) (given_by d (changes_between cs s t)) k
      where
        last : (b : Bool) → b ≡ true → (o : Option Data) → on (if b then Some v else None) o (λ v. Some v) ≡ None → ⊥
        last true q None k = cc
        last true q (Some z) k = cc
        last false q o k = cc

    equal : (o : Option Data) (v : Data) → differs o (Some v) ≡ false → o ≡ Some v
    equal None v k = absurd (cc)
    equal (Some u) v k = ap Some (is (same_data u v) refl k)
      where
        is : (b : Bool) → same_data u v ≡ b → not b ≡ false → u ≡ v
        is true q k = same_of u v q
        is false q k = absurd (cc)

    by_test : (v : Data) → content c t ≡ Some v → (d ≡ c) ⊎ IsAmong d cs → (b : Bool) → differs (content c s) (Some v) ≡ b
        → given_by d (if b then record { component = c; value = v } ∷ changes_between cs s t else changes_between cs s t) ≡ None → (IsAmong d cs → given_by d (changes_between cs s t) ≡ None → content d s ≡ content d t) → content d s ≡ content d t
    by_test v e (inl q) true f k r = absurd (not_here v q k)
    by_test v e (inl q) false f k r = ap (λ z. content z s) q ∙ equal (content c s) v f ∙ sym e ∙ sym (ap (λ z. content z t) q)
    by_test v e (inr a) true f k r = r a (behind true v k)
    by_test v e (inr a) false f k r = r a k

    go : (d ≡ c) ⊎ IsAmong d cs → (o : Option Data) → content c t ≡ o
        → given_by d (on (changes_between cs s t) o (λ v. if differs (content c s) o then record { component = c; value = v } ∷ changes_between cs s t else changes_between cs s t)) ≡ None
        → (IsAmong d cs → given_by d (changes_between cs s t) ≡ None → content d s ≡ content d t) → content d s ≡ content d t
    go (inl q) None e k r = absurd (let z : None ≡ Some w = sym e ∙ sym (ap (λ z. content z t) q) ∙ there in cc)
    go (inr a) None e k r = r a k
    go h (Some v) e k r = by_test v e h (differs (content c s) (Some v)) refl k r

-- so the changes give each component what the second state has
pub given_is : (d : Component) (cs : List Component) (s t : Vars) (w : Data) → content d t ≡ Some w → IsAmong d cs → or_that (content d s) (given_by d (changes_between cs s t)) ≡ content d t
given_is d cs s t w there h = go (given_by d (changes_between cs s t)) refl
  where
    go : (o : Option Data) → given_by d (changes_between cs s t) ≡ o → or_that (content d s) o ≡ content d t
    go None e = none_given d cs s t w there h e
    go (Some v) e =
        let c = given_from d (changes_between cs s t) v e in
        let q = same_is d c.0.component c.2 in
        let f = (change_from cs s t c.0 c.1).1 in
        ap Some (sym c.3) ∙ sym f ∙ (λ i. option_and_then (λ v. on (Some v) (sym q.1 i) (λ j. Rattle.pgo_model.specs.Operators.apply v j)) (find (sym q.0 i) t))

module _ (y : Layout) (layout : IsLayout y) where
  pub all_comparable : (d : Component) (cs : List Change) → IsPart y d.variable d.index → ((c : Change) → IsAmong c cs → IsPart y c.component.variable c.component.index) → Comparable d cs
  all_comparable d [] p h = tt
  all_comparable d (c ∷ cs) p h = (compared y layout d c.component p (h c (inl refl)), all_comparable d cs p (λ e m. h e (inr m)))

  pub all_there : (s : Vars) (cs : List Change) → HasAll y s → ((c : Change) → IsAmong c cs → IsPart y c.component.variable c.component.index) → EachThere s cs
  all_there s [] has h = tt
  all_there s (c ∷ cs) has h =
      (all_comparable c.component cs (h c (inl refl)) (λ e m. h e (inr m)), part_in y layout c.component s has (h c (inl refl)), all_there s cs has (λ e m. h e (inr m)))
