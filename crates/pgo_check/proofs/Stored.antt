-- A state with one component changed.
use Rattle.std.proofs.Common.{◌≡◌, ℕ, zero, suc, ◌<◌, List, [], ◌∷◌, length, set, slice_get, refl, ap, sym, ◌∙◌, subst, arith}
use Rattle.std.specs.Prelude.{Bool, true, false, if◌then◌else◌, is_some, Option, Some, None, option_map, option_and_then}
use Rattle.pgo_base.specs.Data.{Data, function, pairs, graph-pairs}
use Rattle.pgo_base.specs.Lookup.{Name, Vars, same_name, find}
use Rattle.pgo_model.specs.Log.{Component, Change, content, changed, with_part}
use Rattle.pgo_model.specs.Operators.{apply, lookup, replace_at}
use Rattle.pgo_model.specs.Options.{on}
use Rattle.pgo_model.specs.Steps.{place_in}
use Rattle.pgo_model.specs.Variables.{store}
use Rattle.pgo_sets.specs.KeyPlace.{key_place, value_in, set_value}
use Rattle.pgo_sets.proofs.KeyPlaces.{at_place, no_place}

-- a variable that is not there is not changed
pub changed_none : (c : Change) (s : Vars) → find c.component.variable s ≡ None → changed c s ≡ None
changed_none c s h =
    ap (λ o. option_and_then (λ old. on (Some (store c.component.variable c.value s)) c.component.index (λ i. option_map (λ f. store c.component.variable f s) (with_part old i c.value))) o) h

-- a variable becomes what its new value is
pub changed_some : (c : Change) (s : Vars) (old : Data) → find c.component.variable s ≡ Some old → changed c s ≡ option_map (λ w. store c.component.variable w s) (on (Some c.value) c.component.index (λ i. with_part old i c.value))
changed_some c s old h =
    ap (λ o. option_and_then (λ old. on (Some (store c.component.variable c.value s)) c.component.index (λ i. option_map (λ f. store c.component.variable f s) (with_part old i c.value))) o) h ∙ go c.component.index
  where
    go : (o : Option Data) → on (Some (store c.component.variable c.value s)) o (λ i. option_map (λ f. store c.component.variable f s) (with_part old i c.value)) ≡ option_map (λ w. store c.component.variable w s) (on (Some c.value) o (λ i. with_part old i c.value))
    go None = refl
    go (Some i) = refl

-- what stands at the place of a variable
abbrev pub Stands : Name → Vars → ℕ → (Name × Data) → Type 0
Stands x s i p = (slice_get s i ≡ Some p) × (find x s ≡ Some p.1) × ((v : Data) → store x v s ≡ set s i (p.0, v))

stands : (x : Name) (s : Vars) (i : ℕ) → place_in x s ≡ Some i → (p : Name × Data) × Stands x s i p
stands x [] i h = absurd (cc)
stands x (q ∷ s) i h = go (same_name x q.0) refl (place_in x s) refl i h (stands x s)
  where
    go : (b : Bool) → same_name x q.0 ≡ b → (o : Option ℕ) → place_in x s ≡ o → (i : ℕ) → (if b then Some 0 else option_map suc o) ≡ Some i → ((j : ℕ) → place_in x s ≡ Some j → (p : Name × Data) × Stands x s j p) → (p : Name × Data) × Stands x (q ∷ s) i p
    go true t o k i h ih =
        let z : 0 ≡ i = cc in
        subst (λ j. (p : Name × Data) × Stands x (q ∷ s) j p) z (
          q,
          (refl, ap (λ (b : Bool). if b then Some q.1 else find x s) t, λ v. ap (λ (b : Bool). if b then (q.0, v) ∷ s else q ∷ store x v s) t),
        )
    go false t None k i h ih = absurd (cc)
    go false t (Some j) k i h ih =
        let z : suc j ≡ i = cc in
        let r = ih j k in
        subst (λ n. (p : Name × Data) × Stands x (q ∷ s) n p) z (
          r.0,
          (
            r.1.0,
            ap (λ (b : Bool). if b then Some q.1 else find x s) t ∙ r.1.1,
            λ v. ap (λ (b : Bool). if b then (q.0, v) ∷ s else q ∷ store x v s) t ∙ ap (λ l. q ∷ l) (r.1.2 v),
          ),
        )

-- what stands at a place once something was put there
again : (s : Vars) (i : ℕ) (p q : Name × Data) → slice_get s i ≡ Some p → (slice_get (set s i q) i ≡ Some q) × (i < length (set s i q)) × ((r : Name × Data) → set (set s i q) i r ≡ set s i r)
again [] i p q h = absurd (cc)
again (z ∷ s) zero p q h = (refl, omega arith, λ r. refl)
again (z ∷ s) (suc i) p q h = let a = again s i p q h in (a.0, omega (arith, a.1), λ r. ap (λ l. z ∷ l) (a.2 r))

-- s with w at the place i is t, and old stood there
abbrev pub IsPut : Vars → ℕ → Data → Data → Vars → Type 0
IsPut s i old w t = (p : Name × Data) → slice_get s i ≡ Some p → (old ≡ p.1) × (t ≡ set s i (p.0, w))

-- a variable's value is taken out, and another put in its place
pub put_twice : (x : Name) (s t : Vars) (i : ℕ) (old w : Data) → place_in x s ≡ Some i → IsPut s i old w t → (find x s ≡ Some old) × (i < length t) × ((u : Vars) (b v : Data) → IsPut t i b v u → u ≡ store x v s)
put_twice x s t i old w h first =
    let r = stands x s i h in
    let f = first r.0 r.1.0 in
    let a = again s i r.0 (r.0.0, w) r.1.0 in (
      r.1.1 ∙ ap Some (sym f.0),
      subst (λ l. i < length l) (sym f.1) a.1,
      λ u b v second.
          let g = second (r.0.0, w) (ap (λ l. slice_get l i) f.1 ∙ a.0) in
          g.1 ∙ ap (λ l. set l i (r.0.0, v)) f.1 ∙ a.2 (r.0.0, v) ∙ sym (r.1.2 v),
    )

-- a function with another value at one index, by its pairs
part_is : (f : List (Data × Data)) (i v : Data) → with_part (function (pairs f)) i v ≡ option_map (λ old. function (pairs (replace_at i v f))) (lookup i f)
part_is f i v = λ j. option_map (λ old. function (pairs (replace_at i v (graph-pairs f j)))) (lookup i (graph-pairs f j))

-- where the index isn't in its domain there is none
pub part_absent : (f : List (Data × Data)) (i v : Data) → key_place i f ≡ None → with_part (function (pairs f)) i v ≡ None
part_absent f i v h = part_is f i v ∙ ap (option_map (λ old. function (pairs (replace_at i v f)))) (no_place i f h)

there : (n : ℕ) (ps : List (Data × Data)) → n < length ps → (d : Data) × (value_in n ps ≡ Some d)
there n [] h = absurd (omega (arith, h))
there zero (p ∷ ps) h = (p.1, refl)
there (suc n) (p ∷ ps) h = there n ps (omega (arith, h))

-- where it is, the value at its place is another
pub part_placed : (f : List (Data × Data)) (i v : Data) (n : ℕ) → key_place i f ≡ Some n → with_part (function (pairs f)) i v ≡ Some (function (pairs (set_value n v f)))
part_placed f i v n h =
    let a = at_place i f n h in
    let d = there n f a.0 in
    part_is f i v ∙ ap (option_map (λ old. function (pairs (replace_at i v f)))) (a.1 ∙ d.1) ∙ ap (λ ps. Some (function (pairs ps))) (a.2 v)

-- what a variable of pairs has at an index
pub content_at : (x : Component) (s : Vars) (i : Data) (ps : List (Data × Data)) → x.index ≡ Some i → find x.variable s ≡ Some (function (pairs ps)) → content x s ≡ lookup i ps
content_at x s i ps e h =
    ap (λ o. option_and_then (λ v. on (Some v) x.index (λ i. apply v i)) o) h
    ∙ ap (λ o. on (Some (function (pairs ps))) o (λ i. apply (function (pairs ps)) i)) e ∙ ap (lookup i) (graph-pairs ps)

-- what is seen of a value that may be missing is there where it is
pub is_some_of : {A B : Type 0} (o : Option A) (f : A → B) (p : Option B) → option_map f o ≡ p → is_some o ≡ is_some p
is_some_of None f p e = ap is_some e
is_some_of (Some a) f p e = ap is_some e
