-- Values that are sorted are the values in order, each as often as it stands.
use Rattle.std.proofs.Common.{◌≡◌, ◌⊎◌, ℕ, suc, ◌+◌, ◌<◌, Bool, true, false, List, [], ◌∷◌, map, get_or, refl, ap, sym, ◌∙◌, subst, arith, inl, inr}
use Rattle.std.specs.declared.cmp.Ordering.{Ordering}
use Rattle.std.specs.declared.cmp.Ordering.TheVariants.{Less, Equal, Greater}
use Rattle.std.specs.Ordering.{on, is_eq, is_lt, match_ordering, ordering_reverse}
use Rattle.std.specs.List.{AllByRecursion, sum_by}
use Rattle.std.specs.List.Sorted as lists
use Rattle.std.specs.List.Sorted.{IsPermutation}
use Rattle.std.proofs.lemmas.List.Sorted.{sum_by-IsPermutation}
use Rattle.std.proofs.lemmas.List.Sums.{sum_by-cons}
use Rattle.pgo_base.specs.declared.value.Value.{Value}
use Rattle.pgo_base.specs.Data.{Data}
use Rattle.pgo_base.specs.View.{data_of}
use Rattle.pgo_base.specs.Order.{data_cmp}
use Rattle.pgo_base.specs.Exact.{data_exact, data_itself}
use Rattle.pgo_base.specs.Total.{data_total}
use Rattle.pgo_base.specs.Sets.{IsIn}
use Rattle.pgo_model.specs.Operators.{same_data}
use Rattle.pgo_heads.specs.Refusals.{put_in_order, ordered}

abbrev pub AtMost : Data → Data → Type 0
AtMost x y = (data_cmp x y ≡ Less) ⊎ (x ≡ y)

abbrev pub Rises : List Data → Type 0
Rises [] = Unit {0}
Rises (x ∷ xs) = AllByRecursion (AtMost x) xs × Rises xs

at_most_trans : (x y z : Data) → AtMost x y → AtMost y z → AtMost x z
at_most_trans x y z (inl h) (inl g) = inl (data_total.trans x y z h g)
at_most_trans x y z (inl h) (inr e) = inl (subst (λ w. data_cmp x w ≡ Less) e h)
at_most_trans x y z (inr e) g = subst (λ w. AtMost w z) (sym e) g

less_of_greater : (x y : Data) → data_cmp x y ≡ Greater → data_cmp y x ≡ Less
less_of_greater x y h = data_total.antisymm y x ∙ ap ordering_reverse h

at_most_all : (x y : Data) (ys : List Data) → AtMost x y → AllByRecursion (AtMost y) ys → AllByRecursion (AtMost x) ys
at_most_all x y [] h a = tt
at_most_all x y (z ∷ zs) h a = (at_most_trans x y z h a.0, at_most_all x y zs h a.1)

put_above : (y x : Data) (ys : List Data) → AtMost y x → AllByRecursion (AtMost y) ys → AllByRecursion (AtMost y) (put_in_order x ys)
put_above y x [] h a = (h, tt)
put_above y x (z ∷ zs) h a = go (data_cmp x z) (put_above y x zs h a.1)
  where
    go : (o : Ordering) → AllByRecursion (AtMost y) (put_in_order x zs) → AllByRecursion (AtMost y) (match_ordering o (x ∷ z ∷ zs) (x ∷ z ∷ zs) (z ∷ put_in_order x zs))
    go Less r = (h, a)
    go Equal r = (h, a)
    go Greater r = (a.0, r)

rises_put : (x : Data) (ys : List Data) → Rises ys → Rises (put_in_order x ys)
rises_put x [] s = (tt, tt)
rises_put x (y ∷ ys) s = go (data_cmp x y) refl (rises_put x ys s.1)
  where
    go : (o : Ordering) → data_cmp x y ≡ o → Rises (put_in_order x ys) → Rises (match_ordering o (x ∷ y ∷ ys) (x ∷ y ∷ ys) (y ∷ put_in_order x ys))
    go Less e r = ((inl e, at_most_all x y ys (inl e) s.0), s)
    go Equal e r = ((inr (data_exact x y e), at_most_all x y ys (inr (data_exact x y e)) s.0), s)
    go Greater e r = (put_above y x ys (inl (less_of_greater x y e)) s.0, r)

pub rises_ordered : (xs : List Data) → Rises (ordered xs)
rises_ordered [] = tt
rises_ordered (x ∷ xs) = rises_put x (ordered xs) (rises_ordered xs)

abbrev pub one_if : Bool → ℕ
one_if true = 1
one_if false = 0

abbrev pub times : Data → List Data → ℕ
times q [] = 0
times q (x ∷ xs) = one_if (same_data q x) + times q xs

times_put : (q x : Data) (ys : List Data) → times q (put_in_order x ys) ≡ times q (x ∷ ys)
times_put q x [] = refl
times_put q x (y ∷ ys) = go (data_cmp x y) (times_put q x ys)
  where
    go : (o : Ordering) → times q (put_in_order x ys) ≡ times q (x ∷ ys) → times q (match_ordering o (x ∷ y ∷ ys) (x ∷ y ∷ ys) (y ∷ put_in_order x ys)) ≡ times q (x ∷ y ∷ ys)
    go Less r = refl
    go Equal r = refl
    go Greater r = omega (arith, r)

pub times_ordered : (q : Data) (xs : List Data) → times q (ordered xs) ≡ times q xs
times_ordered q [] = refl
times_ordered q (x ∷ xs) = times_put q x (ordered xs) ∙ ap (λ n. one_if (same_data q x) + n) (times_ordered q xs)

pub itself : (x : Data) → one_if (same_data x x) ≡ 1
itself x = ap (λ o. one_if (is_eq o)) (data_itself x)

same_of : (x y : Data) → same_data x y ≡ true → x ≡ y
same_of x y h = go (data_cmp x y) refl h
  where
    go : (o : Ordering) → data_cmp x y ≡ o → is_eq o ≡ true → x ≡ y
    go Less e g = absurd (cc)
    go Equal e g = data_exact x y e
    go Greater e g = absurd (cc)

stands : (q : Data) (xs : List Data) → 0 < times q xs → IsIn q xs
stands q [] h = absurd (omega arith)
stands q (x ∷ xs) h = go (same_data q x) refl h (stands q xs)
  where
    go : (b : Bool) → same_data q x ≡ b → 0 < one_if b + times q xs → (0 < times q xs → IsIn q xs) → IsIn q (x ∷ xs)
    go true e g r = inl (same_of q x e)
    go false e g r = inr (r (omega (arith, g)))

above : (x q : Data) (xs : List Data) → AllByRecursion (AtMost x) xs → IsIn q (x ∷ xs) → AtMost x q
above x q xs a (inl e) = inr (sym e)
above x q [] a (inr h) = absurd h
above x q (y ∷ ys) a (inr (inl e)) = subst (AtMost x) (sym e) a.0
above x q (y ∷ ys) a (inr (inr h)) = above x q ys a.1 (inr h)

between : (x y : Data) → AtMost x y → AtMost y x → x ≡ y
between x y (inr e) g = e
between x y (inl h) (inr e) = sym e
between x y (inl h) (inl g) = absurd (let e = data_total.trans x y x h g in let i = data_itself x in cc)

times_here : (x : Data) (xs : List Data) → 0 < times x (x ∷ xs)
times_here x xs = omega (arith, itself x)

-- two rising lists that have each value as often are one list
same_rising : (xs ys : List Data) → Rises xs → Rises ys → ((q : Data) → times q xs ≡ times q ys) → xs ≡ ys
same_rising [] [] s t f = refl
same_rising [] (y ∷ ys) s t f = absurd (omega (arith, f y, times_here y ys))
same_rising (x ∷ xs) [] s t f = absurd (omega (arith, f x, times_here x xs))
same_rising (x ∷ xs) (y ∷ ys) s t f =
    let e : x ≡ y = between x y
    (above x y xs s.0 (stands y (x ∷ xs) (subst (λ n. 0 < n) (sym (f y)) (times_here y ys))))
    (above y x ys t.0 (stands x (y ∷ ys) (subst (λ n. 0 < n) (f x) (times_here x xs)))) in
    λ i. e i ∷ same_rising xs ys s.1 t.1 (λ q. rest q e) i
  where
    rest : (q : Data) → x ≡ y → times q xs ≡ times q ys
    rest q e = let g : one_if (same_data q x) ≡ one_if (same_data q y) = ap (λ z. one_if (same_data q z)) e in omega (arith, f q, g)

abbrev value_lt : Value → Value → Bool
value_lt x y = is_lt (data_cmp (data_of x) (data_of y))

not_less : (x y : Data) → is_lt (data_cmp y x) ≡ false → AtMost x y
not_less x y h = go (data_cmp y x) refl h
  where
    go : (o : Ordering) → data_cmp y x ≡ o → is_lt o ≡ false → AtMost x y
    go Less e g = absurd (cc)
    go Equal e g = inr (sym (data_exact y x e))
    go Greater e g = inl (less_of_greater y x e)

sorted_rest : (x : Value) (xs : List Value) → lists.IsSortedBy value_lt (x ∷ xs) → lists.IsSortedBy value_lt xs
sorted_rest x xs s k d h g = subst (λ n. value_lt (get_or (x ∷ xs) n d) (get_or (x ∷ xs) (suc k) d) ≡ false) (let e : suc k + 1 ≡ suc (k + 1) = omega arith in e) (s (suc k) d (omega arith) (omega (arith, g)))

sorted_first : (x y : Value) (ys : List Value) → lists.IsSortedBy value_lt (x ∷ y ∷ ys) → AtMost (data_of x) (data_of y)
sorted_first x y ys s = not_less (data_of x) (data_of y) (s 0 x (omega arith) (omega arith))

rises_sorted : (xs : List Value) → lists.IsSortedBy value_lt xs → Rises (map data_of xs)
rises_sorted [] s = tt
rises_sorted (x ∷ []) s = (tt, tt)
rises_sorted (x ∷ y ∷ ys) s =
    let h = sorted_first x y ys s in
    let r = rises_sorted (y ∷ ys) (sorted_rest x (y ∷ ys) s) in
    ((h, at_most_all (data_of x) (data_of y) (map data_of ys) h r.0), r)

times_by : (q : Data) (xs : List Value) → times q (map data_of xs) ≡ sum_by (λ v. one_if (same_data q (data_of v))) xs
times_by q [] = refl
times_by q (x ∷ xs) = ap (λ n. one_if (same_data q (data_of x)) + n) (times_by q xs) ∙ sym (sum_by-cons (λ v. one_if (same_data q (data_of v))) x xs)

pub sorted_ordered : (xs ys : List Value) → IsPermutation xs ys → lists.IsSorted (on data_of data_cmp) ys → map data_of ys ≡ ordered (map data_of xs)
sorted_ordered xs ys p s =
    same_rising (map data_of ys) (ordered (map data_of xs)) (rises_sorted ys s) (rises_ordered (map data_of xs))
    (λ q. times_by q ys ∙ sum_by-IsPermutation (λ v. one_if (same_data q (data_of v))) xs ys p ∙ sym (times_by q xs) ∙ sym (times_ordered q (map data_of xs)))
