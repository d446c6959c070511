-- The pairs of a sequence.
use Rattle.std.proofs.Common.{◌≡◌, ℕ, zero, suc, ℤ, negsuc, ◌-ℤ◌, ◌-◌, ltb, int_lt, nat_abs, ◌<◌, ◌≤◌, ◌+◌, Bool, true, false, cond, if◌then◌else◌, nat_lt, pos, List, [], ◌∷◌, ◌++◌, length, map, take, drop, Some, None, refl, ap, sym, ◌∙◌, arith}
use Rattle.std.proofs.lemmas.List.{length-map, length-append, map_push}
use Rattle.std.proofs.lemmas.Bool.Decides.{nat_tests}
use Rattle.std.specs.declared.cmp.Ordering.TheVariants.{Less, Equal, Greater}
use Rattle.std.specs.Ordering.{int_cmp}
use Rattle.std.specs.List.{AllByRecursion}
use Rattle.std.specs.List.Sorted.{IsStrictlySortedBy}
use Rattle.pgo_base.specs.declared.value.Value.{Value}
use Rattle.pgo_base.specs.Data.{Data, integer, function, pairs, keys}
use Rattle.pgo_base.specs.Order.{data_cmp}
use Rattle.pgo_base.specs.Sets.{IsSorted}
use Rattle.pgo_base.specs.Size.{depth}
use Rattle.pgo_base.specs.View.{data_of, pair_of}
use Rattle.pgo_model.specs.Operators.{span, count_to, sequence, sequence_at, built, if_few, most_members, most_depth}
use Rattle.pgo_model.specs.Sequences.{slice}
use Rattle.pgo_sets.proofs.Ordered.{pairs_stay}

pub number_less : (m n : ℕ) → m < n → int_cmp (pos m) (pos n) ≡ Less
number_less m n h = let less : nat_lt m n ≡ true = grind (arith, nat_tests) in ap (λ b. cond b Less (cond (nat_lt n m) Greater Equal)) less

below_later : (m n : ℕ) (xs : List Data) → m < n → AllByRecursion (λ k. data_cmp (integer (pos m)) k ≡ Less) (keys (sequence_at n xs))
below_later m n [] h = tt
below_later m n (x ∷ xs) h = (number_less m n h, below_later m (suc n) xs (omega arith))

pub sorted_sequence : (n : ℕ) (xs : List Data) → IsSorted (keys (sequence_at n xs))
unfolding IsStrictlySortedBy
sorted_sequence n [] = tt
sorted_sequence n (x ∷ xs) = (below_later n (suc n) xs (omega arith), sorted_sequence (suc n) xs)

pub length_sequence : (n : ℕ) (xs : List Data) → length (sequence_at n xs) ≡ length xs
length_sequence n [] = refl
length_sequence n (x ∷ xs) = ap suc (length_sequence (suc n) xs)

too_long : (n : ℕ) (v : Data) → nat_lt most_members n ≡ true → built n v ≡ None
too_long n v h = go (nat_lt most_depth (depth v))
  where
    go : (b : Bool) → (if b then None else if_few n v) ≡ None
    go true = refl
    go false = ap (λ b. if b then None else Some v) h

-- a sequence of more elements than a function may have keys is none
pub long_sequence : (xs : List Data) (n : ℕ) → n ≡ length xs → nat_lt most_members n ≡ true → sequence xs ≡ None
long_sequence xs n e h =
    ap (λ ps. built (length ps) (function (pairs ps))) (pairs_stay (sequence_at 1 xs) (sorted_sequence 1 xs))
    ∙ too_long (length (sequence_at 1 xs)) (function (pairs (sequence_at 1 xs))) (ap (nat_lt most_members) (length_sequence 1 xs ∙ sym e) ∙ h)

pub sequence_push : (n : ℕ) (xs : List Data) (x : Data) (k : ℕ) → k ≡ n + length xs → sequence_at n (xs ++ x ∷ []) ≡ sequence_at n xs ++ (integer (pos k), x) ∷ []
sequence_push n [] x k e = ap (λ m. (integer (pos m), x) ∷ []) (let z : n ≡ k = omega arith in z)
sequence_push n (y ∷ ys) x k e = ap (λ ps. (integer (pos n), y) ∷ ps) (sequence_push (suc n) ys x k (omega arith))

-- one element more has its number
pub numbered_more : (done next : List (Value × Value)) (vs : List Value) (k v : Value) (n : ℕ) → next ≡ done ++ (k, v) ∷ [] → data_of k ≡ integer (pos (suc n)) → n ≡ length done → length done ≡ length vs → map pair_of done ≡ sequence_at 1 (map data_of vs) → map pair_of next ≡ sequence_at 1 (map data_of (vs ++ v ∷ []))
numbered_more done next vs k v n e d l m h =
    ap (map pair_of) e ∙ map_push pair_of done (k, v) ∙ (λ i. h i ++ (d i, data_of v) ∷ [])
    ∙ sym (sequence_push 1 (map data_of vs) (data_of v) (suc n) (let z : suc n ≡ 1 + length (map data_of vs) = rw (length-map vs data_of) (omega arith) in z))
    ∙ ap (sequence_at 1) (sym (map_push data_of vs v))

pub count_more : {A B : Type 0} (done next : List A) (p : A) (vs : List B) (v : B) → next ≡ done ++ p ∷ [] → length done ≡ length vs → length next ≡ length (vs ++ v ∷ [])
count_more done next p vs v e h = ap length e ∙ length-append done (p ∷ []) ∙ ap (λ n. n + 1) h ∙ sym (length-append vs (v ∷ []))

difference : (a c : ℕ) → suc c ≤ a → pos a -ℤ pos (suc c) ≡ pos (a - suc c)
difference a c h = let no : ltb a (suc c) ≡ false = grind (arith, nat_tests) in ap (λ b. cond b (negsuc (suc c - suc a)) (pos (a - suc c))) no

-- a slice whose bounds are numbers of elements
pub slice_is : (xs : List Data) (m n : ℤ) → int_lt n m ≡ false → int_lt m (pos 1) ≡ false → int_lt (pos (length xs)) n ≡ false → slice xs m n ≡ sequence (take (nat_abs n - (nat_abs m - 1)) (drop (nat_abs m - 1) xs))
slice_is xs (negsuc k) n a b c = absurd (cc)
slice_is xs (pos zero) n a b c = absurd (let e : nat_lt 0 1 ≡ false = b in cc)
slice_is xs (pos (suc k)) (negsuc j) a b c = absurd (cc)
slice_is xs (pos (suc k)) (pos j) a b c =
    let below : suc k ≤ j = (let e : nat_lt j (suc k) ≡ false = a in grind (arith, nat_tests)) in
    let rest = sequence (take (span (pos (suc k)) (pos j)) (drop (nat_abs (pos (suc k) -ℤ pos 1)) xs)) in
    ap (λ t. if t then sequence [] else (if int_lt (pos (suc k)) (pos 1) then None else (if int_lt (pos (length xs)) (pos j) then None else rest))) a
    ∙ ap (λ t. if t then None else (if int_lt (pos (length xs)) (pos j) then None else rest)) b
    ∙ ap (λ t. if t then None else rest) c
    ∙ (λ i. sequence (take (count_to (difference j k below i)) (drop (nat_abs (difference (suc k) 0 (omega arith) i)) xs)))
    ∙ ap (λ n. sequence (take n (drop (suc k - 1) xs))) (let e : suc (j - suc k) ≡ j - (suc k - 1) = omega arith in e)
