-- What a state has once a list of components is changed.
use Rattle.std.proofs.Common.{◌≡◌, Bool, true, false, List, [], ◌∷◌, map, Option, Some, None, refl, sym, ap, ◌∙◌, subst, arith, ◌⊎◌, inl, inr}
use Rattle.std.specs.Prelude.{if◌then◌else◌, ◌&&◌, option_and_then, option_map, is_some}
use Rattle.pgo_base.specs.Data.{Data}
use Rattle.pgo_base.specs.Lookup.{Vars, same_name, find}
use Rattle.pgo_model.specs.Log.{Component, Change, content, with_part, changed, after_changes, are_in}
use Rattle.pgo_model.specs.Operators.{same_data, apply}
use Rattle.pgo_model.specs.Names.{same_name-is}
use Rattle.pgo_model.specs.Options.{on}
use Rattle.pgo_model.specs.Variables.{store}
use Rattle.pgo_workers.specs.Worlds.{are_other, same_component}
use Rattle.pgo_workers.proofs.Components.{is_apart, apart_turned, same_is, apart_not_same, names_stored, find_stored, find_other, part_there}

-- what a variable has, or a function that it has at an index
abbrev pub at_index : Option Data → Option Data → Option Data
at_index at found = option_and_then (λ v. on (Some v) at (λ i. apply v i)) found

-- one component is changed
pub record Changes (c : Change) (s t : Vars) : Type 0 where
  pub there : changed c s ≡ Some t
  pub names : map (λ p. p.0) t ≡ map (λ p. p.0) s
  pub here : content c.component t ≡ Some c.value
  pub elsewhere : (d : Component) → is_apart d c.component ≡ true → content d t ≡ content d s

-- a change of what the variable x has, to new, which stands at the index of the change as its value
stored_changes : (c : Change) (s : Vars) (old new : Data) → find c.component.variable s ≡ Some old → changed c s ≡ Some (store c.component.variable new s)
    → at_index c.component.index (Some new) ≡ Some c.value
    → ((i j : Data) → c.component.index ≡ Some i → same_data j i ≡ false → apply new j ≡ apply old j) → Changes c s (store c.component.variable new s)
stored_changes c s old new found there at_here others =
    let x = c.component.variable in
    let now : find x (store x new s) ≡ Some new = find_stored x new old s found in
    record {
      there = there;
      names = names_stored x new s;
      here = ap (at_index c.component.index) now ∙ at_here;
      elsewhere = λ d h. go d (same_name d.variable x) refl now h;
    }
  where
    index : (d i : Option Data) → are_other d i ≡ true → c.component.index ≡ i → at_index d (Some new) ≡ at_index d (Some old)
    index None None h e = absurd (grind (arith, h))
    index None (Some j) h e = absurd (grind (arith, h))
    index (Some i) None h e = absurd (grind (arith, h))
    index (Some i) (Some j) h e = others j i e (is_false (same_data i j) h)
      where
        is_false : (b : Bool) → Rattle.std.specs.Prelude.not b ≡ true → b ≡ false
        is_false true h = absurd (grind (arith, h))
        is_false false h = refl

    go : (d : Component) (b : Bool) → same_name d.variable c.component.variable ≡ b → find c.component.variable (store c.component.variable new s) ≡ Some new
        → (if b then are_other d.index c.component.index else true) ≡ true → content d (store c.component.variable new s) ≡ content d s
    go d false e now h = ap (at_index d.index) (find_other c.component.variable d.variable new s e)
    go d true e now h =
        let n = same_name-is d.variable c.component.variable e in
        ap (λ x. at_index d.index (find x (store c.component.variable new s))) n ∙ ap (at_index d.index) now
        ∙ index d.index c.component.index h refl ∙ sym (ap (at_index d.index) found) ∙ sym (ap (λ x. at_index d.index (find x s)) n)

pub changes_there : (c : Change) (s : Vars) (w : Data) → content c.component s ≡ Some w → (t : Vars) × Changes c s t
changes_there c s w h = go (find c.component.variable s) refl c.component.index refl h
  where
    store_new : Option Data → Data → Option Vars
    store_new at old = on (Some (store c.component.variable c.value s)) at (λ i. option_map (λ f. store c.component.variable f s) (with_part old i c.value))

    go : (o : Option Data) → find c.component.variable s ≡ o → (at : Option Data) → c.component.index ≡ at → at_index c.component.index (find c.component.variable s) ≡ Some w → (t : Vars) × Changes c s t
    go None f at e h = absurd (let z : None ≡ Some w = sym (ap (at_index c.component.index) f) ∙ h in grind (arith, z))
    go (Some old) f None e h = (
      store c.component.variable c.value s,
      stored_changes c s old c.value f
          (ap (option_and_then (λ old. on (Some (store c.component.variable c.value s)) c.component.index (λ i. option_map (λ f. store c.component.variable f s) (with_part old i c.value)))) f
          ∙ ap (λ at. on (Some (store c.component.variable c.value s)) at (λ i. option_map (λ f. store c.component.variable f s) (with_part old i c.value))) e)
          (ap (λ at. at_index at (Some c.value)) e) (λ i j q n. absurd (let z : None ≡ Some i = sym e ∙ q in grind (arith, z))),
    )
    go (Some old) f (Some i) e h =
        let part = part_there old i c.value w (sym (ap (λ at. at_index at (Some old)) e) ∙ sym (ap (at_index c.component.index) f) ∙ h) in (
          store c.component.variable part.0 s,
          stored_changes c s old part.0 f
              (ap (option_and_then (λ old. on (Some (store c.component.variable c.value s)) c.component.index (λ i. option_map (λ f. store c.component.variable f s) (with_part old i c.value)))) f
              ∙ ap (λ at. on (Some (store c.component.variable c.value s)) at (λ i. option_map (λ f. store c.component.variable f s) (with_part old i c.value))) e
              ∙ ap (option_map (λ f. store c.component.variable f s)) part.1)
              (ap (λ at. at_index at (Some part.0)) e ∙ part.2)
              (λ k j q n. part.3 j (subst (λ k. same_data j k ≡ false) (some_is k i (sym q ∙ e)) n)),
        )
      where
        some_is : (a b : Data) → Some a ≡ Some b → a ≡ b
        some_is a b h = cc

-- ---- a list of changes

-- each of them is of what d is, or leaves d as it is
abbrev pub Comparable : Component → List Change → Type 0
Comparable d [] = Unit {0}
Comparable d (c ∷ cs) = ((same_component d c.component ≡ true) ⊎ (is_apart d c.component ≡ true)) × Comparable d cs

-- each component is compared with those behind it, and is there
abbrev pub EachThere : Vars → List Change → Type 0
EachThere s [] = Unit {0}
EachThere s (c ∷ cs) = Comparable c.component cs × ((w : Data) × (content c.component s ≡ Some w)) × EachThere s cs

-- the last value of d among the changes
abbrev pub given_by : Component → List Change → Option Data
given_by d [] = None
given_by d (c ∷ cs) = on (if same_component d c.component then Some c.value else None) (given_by d cs) (λ v. Some v)

abbrev pub or_that : Option Data → Option Data → Option Data
or_that o n = on o n (λ v. Some v)

pub record Applied (cs : List Change) (s t : Vars) : Type 0 where
  pub there : after_changes cs s ≡ Some t
  pub present : are_in cs s ≡ true
  pub names : map (λ p. p.0) t ≡ map (λ p. p.0) s
  pub contents : (d : Component) → Comparable d cs → content d t ≡ or_that (content d s) (given_by d cs)

-- what d has once the first is changed
first_changed : (c : Change) (s t : Vars) (d : Component) → Changes c s t → (same_component d c.component ≡ true) ⊎ (is_apart d c.component ≡ true)
    → content d t ≡ or_that (content d s) (if same_component d c.component then Some c.value else None)
first_changed c s t d h (inl e) =
    let p = same_is d c.component e in
    (λ i. at_index (p.1 i) (find (p.0 i) t)) ∙ h.here ∙ sym (ap (λ b. or_that (content d s) (if b then Some c.value else None)) e)
first_changed c s t d h (inr e) =
    h.elsewhere d e ∙ sym (ap (λ b. or_that (content d s) (if b then Some c.value else None)) (apart_not_same d c.component e))

joined : (o a b : Option Data) → or_that (or_that o a) b ≡ or_that o (on a b (λ v. Some v))
joined o a None = refl
joined o a (Some v) = refl

-- what is there stays there
still : (d : Component) (o : Option Data) (c : Change) (t : Vars) (w : Data) → o ≡ Some w → content d t ≡ or_that o (if same_component d c.component then Some c.value else None) → (v : Data) × (content d t ≡ Some v)
still d o c t w e h = go (same_component d c.component) h
  where
    go : (b : Bool) → content d t ≡ or_that o (if b then Some c.value else None) → (v : Data) × (content d t ≡ Some v)
    go true h = (c.value, h)
    go false h = (w, h ∙ e)

-- the others are compared with the first, and there
behind : (c : Change) (s t : Vars) (cs : List Change) → Changes c s t → Comparable c.component cs → EachThere s cs → EachThere t cs
behind c s t [] h m e = tt
behind c s t (d ∷ cs) h m e = (
  e.0,
  still d.component (content d.component s) c t e.1.0 e.1.1 (first_changed c s t d.component h (turned d m.0)),
  behind c s t cs h m.1 e.2,
)
  where
    turned : (d : Change) → (same_component c.component d.component ≡ true) ⊎ (is_apart c.component d.component ≡ true) → (same_component d.component c.component ≡ true) ⊎ (is_apart d.component c.component ≡ true)
    turned d (inl e) = let p = same_is c.component d.component e in inl (Rattle.pgo_workers.proofs.Components.same_made d.component c.component (sym p.0) (sym p.1))
    turned d (inr e) = inr (apart_turned c.component d.component e)

pub applied : (cs : List Change) (s : Vars) → EachThere s cs → (t : Vars) × Applied cs s t
applied [] s h = (s, record { there = refl; present = refl; names = refl; contents = λ d e. refl })
applied (c ∷ cs) s h =
    let first = changes_there c s h.1.0 h.1.1 in
    let rest = applied cs first.0 (behind c s first.0 cs first.1 h.0 h.2) in (
      rest.0,
      record {
        there = ap (option_and_then (after_changes cs)) first.1.there ∙ rest.1.there;
        present = ap (λ o. is_some o && are_in cs s) h.1.1 ∙ all_in cs h.2;
        names = rest.1.names ∙ first.1.names;
        contents = λ d e. rest.1.contents d e.1 ∙ ap (λ o. or_that o (given_by d cs)) (first_changed c s first.0 d first.1 e.0)
            ∙ joined (content d s) (if same_component d c.component then Some c.value else None) (given_by d cs);
      },
    )
  where
    all_in : (cs : List Change) → EachThere s cs → are_in cs s ≡ true
    all_in [] h = refl
    all_in (c ∷ cs) h = ap (λ o. is_some o && are_in cs s) h.1.1 ∙ all_in cs h.2
