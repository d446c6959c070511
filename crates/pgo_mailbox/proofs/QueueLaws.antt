-- Messages in a row: what a queue shows as one is taken, put behind the last, kept or dropped.
use Rattle.std.proofs.Common.{◌≡◌, ◌<◌, ◌≤◌, ◌+◌, ◌-◌, ℕ, suc, Bool, true, false, List, [], ◌∷◌, ◌++◌, length, map, take, drop, sym, ap, ◌∙◌, subst, arith}
use Rattle.std.specs.Prelude.{◌↔◌, IsTrue, get_or, max, not, pos}
use Rattle.std.proofs.lemmas.List.{length-map, length-take, length-drop, length_push, drop-map, drop_more, drop_all, take_all, take_more, take-map, take-take, take-append-le, drop-append-le, take_rest, map_push, length-take-le, get_or-drop, get_or-map, get_or-take, take_more_same}
use Rattle.std.specs.declared.cmp.Ordering.{Ordering}
use Rattle.std.specs.Ordering.{is_eq}
use Rattle.pgo_base.specs.Data.{Data, integer}
use Rattle.pgo_base.specs.Order.{data_cmp}
use Rattle.pgo_base.specs.Size.{depth, members_size}
use Rattle.pgo_base.specs.View.{data_of, pair_of}
use Rattle.pgo_base.specs.declared.value.Value.{Value}
use Rattle.pgo_bound.specs.Lookups.{same_of, same_equal}
use Rattle.pgo_model.specs.Operators.{sequence_at}
use Rattle.pgo_sets.proofs.Numbered.{sequence_push}
use Rattle.pgo_mailbox.specs.Queues.{IsQueue, Fits}

-- ---- reading a place
pub taken_more : (xs : List Value) (i : ℕ) (v : Value) → i < length xs → v ≡ get_or xs i v → drop i (map data_of xs) ≡ data_of v ∷ drop (i + 1) (map data_of xs)
taken_more xs i v h e =
    drop-map data_of i xs ∙ ap (map data_of) (drop_more xs i v h) ∙ (λ j. data_of (sym e j) ∷ sym (drop-map data_of (i + 1) xs) j)

pub front_more : (xs : List Value) (i : ℕ) (v : Value) → i < length xs → v ≡ get_or xs i v → take (i + 1) (map data_of xs) ≡ take i (map data_of xs) ++ data_of v ∷ []
front_more xs i v h e =
    take-map data_of (i + 1) xs ∙ ap (map data_of) (take_more xs i v h) ∙ map_push data_of (take i xs) (get_or xs i v)
    ∙ (λ j. sym (take-map data_of i xs) j ++ data_of (sym e j) ∷ [])

pub none_left : (xs : List Value) (i : ℕ) → length xs ≤ i → drop i (map data_of xs) ≡ []
none_left xs i h = drop_all i (map data_of xs) (omega (arith, h, length-map xs data_of))

-- ---- what fits
pub largest_push : (xs : List Data) (x : Data) → members_size (xs ++ x ∷ []) ≡ max (members_size xs) (depth x)
largest_push [] x = omega arith
largest_push (y ∷ ys) x = omega (arith, largest_push ys x)

pub fits_push : (xs : List Data) (x : Data) → Fits xs → length xs < 65536 → depth x ≤ 254 → Fits (xs ++ x ∷ [])
fits_push xs x f h d = record { count = omega (arith, h, length_push xs x); deep = omega (arith, f.deep, d, largest_push xs x) }

pub fits_rest : (xs ys : List Data) (x : Data) → xs ≡ x ∷ ys → Fits xs → Fits ys
fits_rest xs ys x e f = let g : Fits (x ∷ ys) = subst Fits e f in record { count = omega (arith, g.count); deep = omega (arith, g.deep) }

-- ---- the steps of a queue
pub made : (ms : List Data) (n : ℕ) → n ≡ length ms → Fits ms → IsQueue ms n 0
made ms n e f = record { base_within = omega (arith, e); taken_within = omega arith; base_fits = subst Fits (sym (take_all n ms (omega (arith, e)))) f; now_fits = f }

module _ (ms : List Data) (base taken : ℕ) (q : IsQueue ms base taken) where
  pub taken_one : (x : Data) → taken < length ms → drop taken ms ≡ x ∷ drop (taken + 1) ms → IsQueue ms base (taken + 1)
  taken_one x h e = record { base_within = q.base_within; taken_within = omega (arith, h); base_fits = q.base_fits; now_fits = fits_rest (drop taken ms) (drop (taken + 1) ms) x e q.now_fits }

  pub base_stays : (x : Data) → take base (ms ++ x ∷ []) ≡ take base ms
  base_stays x = take-append-le base ms (x ∷ []) q.base_within

  pub now_grows : (x : Data) → drop taken (ms ++ x ∷ []) ≡ drop taken ms ++ x ∷ []
  now_grows x = drop-append-le taken ms (x ∷ []) q.taken_within

  pub put_one : (x : Data) → length (drop taken ms) < 65536 → depth x ≤ 254 → IsQueue (ms ++ x ∷ []) base taken
  put_one x h d = record {
    base_within = omega (arith, q.base_within, length_push ms x);
    taken_within = omega (arith, q.taken_within, length_push ms x);
    base_fits = subst Fits (sym (base_stays x)) q.base_fits;
    now_fits = subst Fits (sym (now_grows x)) (fits_push (drop taken ms) x q.now_fits h d);
  }

  pub now_is_base : (n : ℕ) → n ≡ length (drop taken ms) → IsQueue (drop taken ms) n 0
  now_is_base n e = made (drop taken ms) n e q.now_fits

  pub dropped : IsQueue (take base ms) base 0
  dropped = record {
    base_within = omega (arith, q.base_within, length-take base ms);
    taken_within = omega arith;
    base_fits = subst Fits (sym (take-take base base ms (omega arith))) q.base_fits;
    now_fits = q.base_fits;
  }

  pub now_length : length ms - taken ≡ length (drop taken ms)
  now_length = sym (length-drop taken ms)

-- ---- tests
pub not_so : (b : Bool) {P : Type 0} → b ≡ false → IsTrue b ↔ P → P → ⊥
not_so b f e p = let t : b ≡ true = e.1 p in absurd (cc)

pub not_not : (b : Bool) {P : Type 0} → IsTrue (not b) → IsTrue b ↔ P → P → ⊥
not_not b t e p = let s : not b ≡ true = t in let r : not b ≡ false = ap not (e.1 p) in absurd (cc)

-- a comparison's answer
pub differ_by : (o : Ordering) (b : Bool) (v w : Data) → b ≡ is_eq o → o ≡ data_cmp v w → b ≡ false → v ≡ w → ⊥
differ_by o b v w e c n s =
    let t : b ≡ true = e ∙ ap is_eq c ∙ same_equal v w s in absurd (cc)

pub same_by : (o : Ordering) (b : Bool) (v w : Data) → b ≡ is_eq o → o ≡ data_cmp v w → b ≡ true → v ≡ w
same_by o b v w e c n = same_of v w (sym (e ∙ ap is_eq c) ∙ n)

-- ---- what a queue shows behind each call
module _ (xs : List Value) (base taken : ℕ) (q : IsQueue (map data_of xs) base taken) (now : List Data × List Data)
    (view : ◌≡◌ {A = List Data × List Data} (take base (map data_of xs), drop taken (map data_of xs)) now) where
  abbrev ms : List Data
  ms = map data_of xs

  first_is : take base ms ≡ now.0
  first_is = ap (λ p. p.0) view

  now_is : drop taken ms ≡ now.1
  now_is = ap (λ p. p.1) view

  pub after_take : (v w : Value) (n : ℕ) → taken < n → n ≡ length xs → v ≡ get_or xs taken v → w ≡ v
      → IsQueue ms base (taken + 1) × (take base ms ≡ now.0) × (now.1 ≡ data_of w ∷ drop (taken + 1) ms) × Fits now.1
  after_take v w n h l e c =
      let more : drop taken ms ≡ data_of v ∷ drop (taken + 1) ms = taken_more xs taken v (omega (arith, h, l)) e in (
        taken_one ms base taken q (data_of v) (omega (arith, h, l, length-map xs data_of)) more,
        first_is,
        sym now_is ∙ more ∙ ap (λ z. data_of z ∷ drop (taken + 1) ms) (sym c),
        subst Fits now_is q.now_fits,
      )

  pub after_put : (x w : Value) (new : List Value) (n : ℕ) (r : Bool) → new ≡ xs ++ w ∷ [] → w ≡ x → n ≡ length now.1 → n < 65536 → r ≡ false → IsTrue r ↔ 254 < depth (data_of x)
      → IsQueue (map data_of new) base taken × (◌≡◌ {A = List Data × List Data} (take base (map data_of new), drop taken (map data_of new)) (now.0, now.1 ++ data_of x ∷ []))
  after_put x w new n r e c l h f d =
      let made : map data_of new ≡ ms ++ data_of x ∷ [] = ap (map data_of) e ∙ map_push data_of xs w ∙ ap (λ z. ms ++ data_of z ∷ []) c in
      let shallow : depth (data_of x) ≤ 254 = (let no = not_so r f d in omega (arith, no)) in
      let room : length (drop taken ms) < 65536 = omega (arith, h, l, ap length now_is) in (
        subst (λ ys. IsQueue ys base taken) (sym made) (put_one ms base taken q (data_of x) room shallow),
        λ i. (
          (ap (take base) made ∙ base_stays ms base taken q (data_of x) ∙ first_is) i,
          (ap (drop taken) made ∙ now_grows ms base taken q (data_of x) ∙ ap (λ ys. ys ++ data_of x ∷ []) now_is) i,
        ),
      )

  pub after_commit : (new : List Value) (n : ℕ) → new ≡ drop taken xs → n ≡ length new → IsQueue (map data_of new) n 0 × (◌≡◌ {A = List Data × List Data} (take n (map data_of new), map data_of new) (now.1, now.1))
  after_commit new n e l =
      let kept : map data_of new ≡ drop taken ms = ap (map data_of) e ∙ sym (drop-map data_of taken xs) in
      let many : n ≡ length (map data_of new) = l ∙ sym (length-map new data_of) in (
        made (map data_of new) n many (subst Fits (sym kept) q.now_fits),
        λ i. ((take_all n (map data_of new) (omega (arith, many)) ∙ kept ∙ now_is) i, (kept ∙ now_is) i),
      )

  pub after_abort : (new : List Value) → new ≡ take base xs → IsQueue (map data_of new) base 0 × (◌≡◌ {A = List Data × List Data} (take base (map data_of new), map data_of new) (now.0, now.0))
  after_abort new e =
      let kept : map data_of new ≡ take base ms = ap (map data_of) e ∙ sym (take-map data_of base xs) in (
        subst (λ ys. IsQueue ys base 0) (sym kept) (dropped ms base taken q),
        λ i. ((ap (take base) kept ∙ take-take base base ms (omega arith) ∙ first_is) i, (kept ∙ first_is) i),
      )

-- ---- loops over places
-- one pair more of a sequence
pub one_pair : (xs : List Value) (from i : ℕ) (v k : Value) (done next : List (Value × Value)) → from ≤ i → i < length xs → v ≡ get_or xs i v → data_of k ≡ integer (pos (suc (i - from)))
    → next ≡ done ++ (k, v) ∷ [] → map pair_of done ≡ sequence_at 1 (take (i - from) (drop from (map data_of xs)))
    → map pair_of next ≡ sequence_at 1 (take (i + 1 - from) (drop from (map data_of xs)))
one_pair xs from i v k done next low h e n p d =
    let ms = drop from (map data_of xs) in
    let room : i - from < length ms = omega (arith, low, h, length-drop from (map data_of xs), length-map xs data_of) in
    let place : from + (i - from) ≡ i = omega (arith, low) in
    let step : i + 1 - from ≡ (i - from) + 1 = omega (arith, low) in
    let here : get_or ms (i - from) (data_of v) ≡ data_of v =
    get_or-drop from (map data_of xs) (i - from) (data_of v) ∙ ap (λ j. get_or (map data_of xs) j (data_of v)) place ∙ get_or-map data_of xs i v (data_of v) h ∙ ap data_of (sym e) in
    let more : take (i + 1 - from) ms ≡ take (i - from) ms ++ data_of v ∷ [] =
    ap (λ j. take j ms) step ∙ take_more ms (i - from) (data_of v) room ∙ ap (λ x. take (i - from) ms ++ x ∷ []) here in
    let size : length (take (i - from) ms) ≡ i - from = length-take-le (i - from) ms (omega (arith, room)) in
    ap (map pair_of) p ∙ map_push pair_of done (k, v) ∙ (λ j. d j ++ (n j, data_of v) ∷ [])
    ∙ sym (ap (sequence_at 1) more ∙ sequence_push 1 (take (i - from) ms) (data_of v) (suc (i - from)) (omega (arith, size)))

pub whole : (ms : List Data) (from to : ℕ) → from ≤ to → to ≡ length ms → take (to - from) (drop from ms) ≡ drop from ms
whole ms from to h e = ap (λ n. take (n - from) (drop from ms)) e ∙ take_rest ms from

-- whether two stretches are the same
pub moved_more : (xs : List Value) (i taken : ℕ) (v w : Value) → i + taken < length xs → v ≡ get_or xs i v → w ≡ get_or xs (i + taken) w → data_of v ≡ data_of w
    → take i (map data_of xs) ≡ take i (drop taken (map data_of xs)) → take (i + 1) (map data_of xs) ≡ take (i + 1) (drop taken (map data_of xs))
moved_more xs i taken v w h e f s t =
    let ms = map data_of xs in let x = data_of v in
    let long : length ms ≡ length xs = length-map xs data_of in
    let left : get_or ms i x ≡ x = get_or-map data_of xs i v x (omega (arith, h)) ∙ ap data_of (sym e) in
    let right : get_or (drop taken ms) i x ≡ x =
    get_or-drop taken ms i x ∙ ap (λ j. get_or ms j x) (let z : taken + i ≡ i + taken = omega arith in z) ∙ get_or-map data_of xs (i + taken) w x h ∙ ap data_of (sym f) ∙ sym s in
    take_more_same ms (drop taken ms) i x (omega (arith, h, long)) (omega (arith, h, long, length-drop taken ms)) t (left ∙ sym right)

pub moved_here : (xs : List Value) (i count taken : ℕ) (v w : Value) → i < count → i + taken < length xs → v ≡ get_or xs i v → w ≡ get_or xs (i + taken) w → (data_of v ≡ data_of w → ⊥)
    → take count (map data_of xs) ≡ take count (drop taken (map data_of xs)) → ⊥
moved_here xs i count taken v w low h e f s t =
    let ms = map data_of xs in let x = data_of v in
    let left : get_or (take count ms) i x ≡ data_of v = get_or-take count ms i x low ∙ get_or-map data_of xs i v x (omega (arith, h)) ∙ ap data_of (sym e) in
    let right : get_or (take count (drop taken ms)) i x ≡ data_of w =
    get_or-take count (drop taken ms) i x low ∙ get_or-drop taken ms i x ∙ ap (λ j. get_or ms j x) (let z : taken + i ≡ i + taken = omega arith in z) ∙ get_or-map data_of xs (i + taken) w x h ∙ ap data_of (sym f) in
    s (sym left ∙ ap (λ l. get_or l i x) t ∙ right)

-- whether some message is deeper
pub deeper_step : (xs : List Value) (i : ℕ) (v : Value) → i < length xs → v ≡ get_or xs i v → members_size (drop i (map data_of xs)) ≡ max (depth (data_of v)) (members_size (drop (i + 1) (map data_of xs)))
deeper_step xs i v h e = ap members_size (taken_more xs i v h e)
