-- Members that are sorted and freed of repeats are the members in order.
use Rattle.std.proofs.Common.{◌≡◌, ℕ, zero, suc, ◌<◌, List, [], ◌∷◌, length, map, get_or, refl, ap, sym, arith, inl, inr}
use Rattle.std.specs.declared.cmp.Ordering.TheVariants.{Less}
use Rattle.std.specs.Ordering.{on, eq_by_cmp}
use Rattle.std.specs.List.{AllByRecursion, Contains, dedup}
use Rattle.std.specs.List.Sorted as lists
use Rattle.std.specs.List.Sorted.{IsStrictlySortedBy, IsPermutation}
use Rattle.std.proofs.lemmas.List.Sorted.{Contains-permutation, IsPermutation-sym}
use Rattle.std.proofs.lemmas.List.Kept.{Any-dedup, Contains-from_dedup, IsStrictlySortedBy-dedup}
use Rattle.std.proofs.lemmas.Map.Views.{tells_apart}
use Rattle.pgo_base.specs.declared.value.Value.{Value}
use Rattle.pgo_base.specs.Data.{Data}
use Rattle.pgo_base.specs.View.{data_of}
use Rattle.pgo_base.specs.Order.{data_cmp}
use Rattle.pgo_base.specs.Exact.{data_exact}
use Rattle.pgo_base.specs.ValueLaws.{value_total, value_equiv}
use Rattle.pgo_base.specs.Sets.{IsIn, IsSorted, in_order, sorted-in_order, in-in_order, in_order-in, same_sorted}

below_map : (x : Value) (ys : List Value) → AllByRecursion (λ y. data_cmp (data_of x) (data_of y) ≡ Less) ys → AllByRecursion (λ y. data_cmp (data_of x) y ≡ Less) (map data_of ys)
below_map x [] h = tt
below_map x (y ∷ ys) h = (h.0, below_map x ys h.1)

sorted_map : (xs : List Value) → IsStrictlySortedBy (on data_of data_cmp) xs → IsSorted (map data_of xs)
unfolding IsStrictlySortedBy
sorted_map [] h = tt
sorted_map (x ∷ xs) h = (below_map x xs h.0, sorted_map xs h.1)

in_at : (xs : List Value) (k : ℕ) (v : Value) → k < length xs → get_or xs k v ≡ v → IsIn (data_of v) (map data_of xs)
in_at [] k v h e = absurd (omega arith)
in_at (x ∷ xs) zero v h e = inl (ap data_of (sym e))
in_at (x ∷ xs) (suc k) v h e = inr (in_at xs k v (omega arith) e)

found : (q : Data) (xs : List Value) → IsIn q (map data_of xs) → (v : Value) × Contains xs v × (q ≡ data_of v)
found q [] h = absurd h
found q (x ∷ xs) (inl e) = (x, (0, omega arith, refl), e)
found q (x ∷ xs) (inr h) = go (found q xs h)
  where
    go : (v : Value) × Contains xs v × (q ≡ data_of v) → (v : Value) × Contains (x ∷ xs) v × (q ≡ data_of v)
    go r = (r.0, (suc r.1.0, omega (arith, r.1.1), r.1.2), r.2)

moved : (q : Data) (xs ys : List Value) → IsPermutation xs ys → IsIn q (map data_of xs) → IsIn q (map data_of ys)
moved q xs ys p h =
    let r = found q xs h in
    let c = Contains-permutation xs ys r.0 p r.1 in
    rw r.2 (in_at ys c.0 r.0 c.1 c.2)

abbrev kept : List Value → List Value
kept ys = dedup (eq_by_cmp (on data_of data_cmp)) ys

kept_sorted : (ys : List Value) → lists.IsSorted (on data_of data_cmp) ys → IsSorted (map data_of (kept ys))
kept_sorted ys s = sorted_map (kept ys) (IsStrictlySortedBy-dedup value_total (λ x y. refl) ys s)

there : (q : Data) (xs ys : List Value) → IsPermutation xs ys → IsIn q (map data_of (kept ys)) → IsIn q (in_order (map data_of xs))
there q xs ys p h =
    let r = found q (kept ys) h in
    let c = Contains-from_dedup (eq_by_cmp (on data_of data_cmp)) ys r.0 r.1 in
    in_order-in q (map data_of xs) (moved q ys xs (IsPermutation-sym xs ys p) (rw r.2 (in_at ys c.0 r.0 c.1 c.2)))

back : (q : Data) (xs ys : List Value) → IsPermutation xs ys → IsIn q (in_order (map data_of xs)) → IsIn q (map data_of (kept ys))
back q xs ys p h =
    let r = found q ys (moved q xs ys p (in-in_order q (map data_of xs) h)) in
    let a = Any-dedup value_equiv ys r.0 r.1 in
    rw (r.2, tells_apart data_exact (data_of r.0) (data_of a.1) a.4) (in_at (kept ys) a.0 a.1 a.2 a.3)

pub gathered : (xs ys zs : List Value) → IsPermutation xs ys → lists.IsSorted (on data_of data_cmp) ys → zs ≡ dedup (eq_by_cmp (on data_of data_cmp)) ys → IsSorted (map data_of zs) × (map data_of zs ≡ in_order (map data_of xs))
gathered xs ys zs p s e =
    let done : IsSorted (map data_of (kept ys)) × (map data_of (kept ys) ≡ in_order (map data_of xs)) =
    (kept_sorted ys s, same_sorted (map data_of (kept ys)) (in_order (map data_of xs)) (kept_sorted ys s) (sorted-in_order (map data_of xs)) (λ q h. there q xs ys p h) (λ q h. back q xs ys p h)) in
    rw e done
