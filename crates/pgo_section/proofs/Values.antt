-- The values that an entry records.
use Rattle.std.proofs.Common.{◌≡◌, ◌≤◌, ◌<◌, ◌+◌, ℕ, zero, suc, Bool, true, false, List, [], ◌∷◌, length, map, drop, get_or, Some, refl, sym, ap, ◌∙◌, subst, arith}
use Rattle.std.specs.Prelude.{if◌then◌else◌, nat_eq, nat_le, nat_lt}
use Rattle.std.specs.List.{insert}
use Rattle.pgo_base.specs.View.{data_of}
use Rattle.pgo_base.specs.declared.value.Value.{Value}
use Rattle.pgo_model.specs.Log.{differs}
use Rattle.pgo_model.specs.Machine.{among}
use Rattle.pgo_model.specs.MachineAccounts.{equal_or}
use Rattle.pgo_workers.specs.Walk.{At}
use Rattle.pgo_workers.specs.View.{Hold, EachHold, Once, hold_at, resources_of}
use Rattle.pgo_workers.specs.Worker.{changes_of}
use Rattle.pgo_workers.specs.Worlds.{put_in_order, changed_resources}
use Rattle.pgo_section.specs.Folds.{at_of, place_in_order, with_changed, AllBelow}
use Rattle.pgo_section.proofs.Boards.{at_among}

-- ---- the place of a number

le_true : (a b : ℕ) → a ≤ b → nat_le a b ≡ true
le_true a b h = grind (arith, h)

le_false : (a b : ℕ) → b < a → nat_le a b ≡ false
le_false a b h = grind (arith, h)

pub place_here : (r : ℕ) (vs : List (ℕ × Value)) (i : ℕ) (v : ℕ × Value) → i < length vs → v ≡ get_or vs i v → r ≤ v.0 → place_in_order r (map at_of (drop i vs)) ≡ 0
place_here r [] i v l e h = absurd (omega (arith, l))
place_here r (x ∷ vs) zero v l e h = let t : nat_le r x.0 ≡ true = le_true r x.0 (subst (λ (v : ℕ × Value). r ≤ v.0) e h) in ap (λ b. if b then 0 else suc (place_in_order r (map at_of vs))) t
place_here r (x ∷ vs) (suc i) v l e h = place_here r vs i v (omega (arith, l)) e h

pub place_next : (r : ℕ) (vs : List (ℕ × Value)) (i : ℕ) (v : ℕ × Value) → i < length vs → v ≡ get_or vs i v → v.0 < r → place_in_order r (map at_of (drop i vs)) ≡ suc (place_in_order r (map at_of (drop (suc i) vs)))
place_next r [] i v l e h = absurd (omega (arith, l))
place_next r (x ∷ vs) zero v l e h = let t : nat_le r x.0 ≡ false = le_false r x.0 (subst (λ (v : ℕ × Value). v.0 < r) e h) in ap (λ b. if b then 0 else suc (place_in_order r (map at_of vs))) t
place_next r (x ∷ vs) (suc i) v l e h = place_next r vs i v (omega (arith, l)) e h

pub place_after : (r : ℕ) (vs : List (ℕ × Value)) (i : ℕ) (v : ℕ × Value) → i < length vs → v ≡ get_or vs i v → v.0 < r → place_in_order r (map at_of (drop i vs)) ≡ suc (place_in_order r (map at_of (drop (i + 1) vs)))
place_after r vs i v l e h = place_next r vs i v l e h ∙ ap (λ n. suc (place_in_order r (map at_of (drop n vs)))) (let q : suc i ≡ i + 1 = omega arith in q)

pub place_end : (r : ℕ) (vs : List (ℕ × Value)) (i : ℕ) → length vs ≤ i → place_in_order r (map at_of (drop i vs)) ≡ 0
place_end r [] zero h = refl
place_end r [] (suc i) h = refl
place_end r (x ∷ vs) zero h = absurd (omega (arith, h))
place_end r (x ∷ vs) (suc i) h = place_end r vs i (omega (arith, h))

pub inserted : (r : ℕ) (v : Value) (vs : List (ℕ × Value)) (i : ℕ) → i ≡ place_in_order r (map at_of vs) → map at_of (insert vs i (r, v)) ≡ put_in_order (r, data_of v) (map at_of vs)
inserted r v vs i e = ap (λ i. map at_of (insert vs i (r, v))) e ∙ go vs
  where
    go : (vs : List (ℕ × Value)) → map at_of (insert vs (place_in_order r (map at_of vs)) (r, v)) ≡ put_in_order (r, data_of v) (map at_of vs)
    go [] = refl
    go (x ∷ vs) = at (nat_le r x.0) (go vs)
      where
        at : (b : Bool) → map at_of (insert vs (place_in_order r (map at_of vs)) (r, v)) ≡ put_in_order (r, data_of v) (map at_of vs)
            → map at_of (insert (x ∷ vs) (if b then 0 else suc (place_in_order r (map at_of vs))) (r, v)) ≡ (if b then (r, data_of v) ∷ (at_of x ∷ map at_of vs) else at_of x ∷ put_in_order (r, data_of v) (map at_of vs))
        at true e = refl
        at false e = ap (λ l. at_of x ∷ l) e

-- ---- the changed resources, from the last to the first

pub changed_step : (hs : List Hold) (i r : ℕ) (h : Hold) → Once (resources_of hs) → i < length (resources_of hs) → r ≡ get_or (resources_of hs) i r → hold_at hs r ≡ Some h
    → changed_resources (changes_of (drop i hs)) ≡ with_changed r h.content (changed_resources (changes_of (drop (suc i) hs)))
changed_step [] i r h o l e a = absurd (omega (arith, l))
changed_step (x ∷ hs) zero r h o l e a =
    let self : nat_eq x.resource r ≡ true = grind (arith, e) in
    let q : Some x ≡ Some h = sym (ap (λ b. if b then Some x else hold_at hs r) self) ∙ a in
    let s : x ≡ h = grind (arith, q) in
    ap (λ (x : Hold). with_changed x.resource x.content (changed_resources (changes_of hs))) s
    ∙ ap (λ r. with_changed r h.content (changed_resources (changes_of hs))) (ap (λ (h : Hold). h.resource) (sym s) ∙ sym e)
changed_step (x ∷ hs) (suc i) r h o l e a =
    let there : among r (resources_of hs) ≡ true = at_among (resources_of hs) i r (omega (arith, l)) e in
    let other : nat_eq x.resource r ≡ false = go (nat_eq x.resource r) refl there in
    changed_step hs i r h o.1 (omega (arith, l)) e (sym (ap (λ b. if b then Some x else hold_at hs r) other) ∙ a)
  where
    go : (b : Bool) → nat_eq x.resource r ≡ b → among r (resources_of hs) ≡ true → b ≡ false
    go true q t = let z = (equal_or x.resource r true q).0 refl in let y : true ≡ false = sym t ∙ ap (λ r. among r (resources_of hs)) (sym z) ∙ o.0 in absurd (grind (arith, y))
    go false q t = refl

pub changed_after : (hs : List Hold) (i r : ℕ) (h : Hold) → Once (resources_of hs) → i < length (resources_of hs) → r ≡ get_or (resources_of hs) i r → hold_at hs r ≡ Some h
    → changed_resources (changes_of (drop i hs)) ≡ with_changed r h.content (changed_resources (changes_of (drop (i + 1) hs)))
changed_after hs i r h o l e a = changed_step hs i r h o l e a ∙ ap (λ n. with_changed r h.content (changed_resources (changes_of (drop n hs)))) (let q : suc i ≡ i + 1 = omega arith in q)

pub none_left : (hs : List Hold) (i : ℕ) → length (resources_of hs) ≤ i → drop i hs ≡ []
none_left [] zero h = refl
none_left [] (suc i) h = refl
none_left (x ∷ hs) zero h = absurd (omega (arith, h))
none_left (x ∷ hs) (suc i) h = none_left hs i (omega (arith, h))

-- ---- their numbers are those of resources

below_put : (n : ℕ) (v : At) (vs : List At) → v.0 < n → AllBelow n vs → AllBelow n (put_in_order v vs)
below_put n v [] h a = (h, tt)
below_put n v (x ∷ vs) h a = go (nat_le v.0 x.0) (below_put n v vs h a.1)
  where
    go : (b : Bool) → AllBelow n (put_in_order v vs) → AllBelow n (if b then v ∷ (x ∷ vs) else x ∷ put_in_order v vs)
    go true ih = (h, a)
    go false ih = (a.0, ih)

pub changed_below : (n : ℕ) (hs : List Hold) → EachHold (λ h. nat_lt h.resource n ≡ true) hs → AllBelow n (changed_resources (changes_of hs))
changed_below n [] e = tt
changed_below n (h ∷ hs) e = go (differs (Some h.content.base) (Some h.content.current)) (changed_below n hs e.1)
  where
    small : (r : ℕ) → nat_lt r n ≡ true → r < n
    small r q = grind (arith, q)

    go : (b : Bool) → AllBelow n (changed_resources (changes_of hs)) → AllBelow n (if b then put_in_order (h.resource, h.content.current) (changed_resources (changes_of hs)) else changed_resources (changes_of hs))
    go true ih = below_put n (h.resource, h.content.current) _ (small h.resource e.0) ih
    go false ih = ih
