-- Values with the keys 1, 2 and so on, which are in order.
use Rattle.std.proofs.Common.{◌≡◌, ◌<◌, ◌+◌, ℕ, suc, pos, List, [], ◌∷◌, ◌++◌, length, map, refl, sym, ◌∙◌, ap, arith}
use Rattle.std.proofs.lemmas.List.{length-map, map-append}
use Rattle.std.proofs.lemmas.Int.{ints}
use Rattle.std.specs.declared.cmp.Ordering.TheVariants.{Less}
use Rattle.std.specs.Cmp.{int_cmp_is}
use Rattle.std.specs.List.{AllByRecursion}
use Rattle.std.specs.List.Sorted.{IsStrictlySortedBy}
use Rattle.pgo_base.specs.declared.value.Value.{Value}
use Rattle.pgo_base.specs.Data.{Data, integer, keys}
use Rattle.pgo_base.specs.Order.{data_cmp}
use Rattle.pgo_base.specs.Sets.{IsSorted}
use Rattle.pgo_base.specs.View.{data_of, pair_of}
use Rattle.pgo_model.specs.Operators.{sequence_at}

pub sequence_more : (n : ℕ) (xs : List Data) (x : Data) → sequence_at n (xs ++ x ∷ []) ≡ sequence_at n xs ++ (integer (pos (n + length xs)), x) ∷ []
sequence_more n [] x = let e : n ≡ n + 0 = omega arith in ap (λ m. (integer (pos m), x) ∷ []) e
sequence_more n (y ∷ ys) x =
    let e : suc n + length ys ≡ n + suc (length ys) = omega arith in
    ap (λ l. (integer (pos n), y) ∷ l) (sequence_more (suc n) ys x ∙ ap (λ m. sequence_at (suc n) ys ++ (integer (pos m), x) ∷ []) e)

pub length-sequence_at : (n : ℕ) (xs : List Data) → length (sequence_at n xs) ≡ length xs
length-sequence_at n [] = refl
length-sequence_at n (x ∷ xs) = ap suc (length-sequence_at (suc n) xs)

-- one element more
pub numbered_more : (ps : List (Value × Value)) (xs : List Value) (k x : Value) (n : ℕ) → map pair_of ps ≡ sequence_at 1 (map data_of xs) → data_of k ≡ integer (pos n) → n ≡ length ps + 1
    → map pair_of (ps ++ (k, x) ∷ []) ≡ sequence_at 1 (map data_of (xs ++ x ∷ []))
numbered_more ps xs k x n e key number =
    let l : length ps ≡ length (map data_of xs) = sym (length-map ps pair_of) ∙ ap length e ∙ length-sequence_at 1 (map data_of xs) in
    let m : n ≡ 1 + length (map data_of xs) = omega arith in
    map-append pair_of ps ((k, x) ∷ [])
    ∙ (λ i. e i ++ ((key ∙ ap (λ q. integer (pos q)) m) i, data_of x) ∷ [])
    ∙ sym (sequence_more 1 (map data_of xs) (data_of x))
    ∙ ap (sequence_at 1) (sym (map-append data_of xs (x ∷ [])))

below : (m n : ℕ) (xs : List Data) → m < n → AllByRecursion (λ y. data_cmp (integer (pos m)) y ≡ Less) (keys (sequence_at n xs))
below m n [] h = tt
below m n (x ∷ xs) h = (sym (int_cmp_is (pos m) (pos n) Less (omega (arith, ints))), below m (suc n) xs (omega arith))

pub sorted_sequence : (n : ℕ) (xs : List Data) → IsSorted (keys (sequence_at n xs))
unfolding IsStrictlySortedBy
sorted_sequence n [] = tt
sorted_sequence n (x ∷ xs) = (below n (suc n) xs (omega arith), sorted_sequence (suc n) xs)
