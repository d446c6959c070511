-- The order of values is a total order, and two values that it does not tell apart are one.
use Rattle.std.specs.Prelude.{◌≡◌, ℕ, zero, suc, ◌≤◌, max, Bool, true, false, ℤ, pos, List, [], ◌∷◌, refl}
use Rattle.std.proofs.Common.{arith, ap, sym, ◌∙◌}
use Rattle.std.specs.Cmp.{IsTotalOrder}
use Rattle.std.specs.Cmp.Lexicographic.{slice_cmp}
use Rattle.std.specs.declared.cmp.Ordering.{Ordering}
use Rattle.std.specs.declared.cmp.Ordering.TheVariants.{Less, Equal, Greater}
use Rattle.std.specs.Ordering.{ordering_then, ordering_reverse, nat_cmp, int_cmp, bool_cmp, on, then_cmp}
use Rattle.std.proofs.lemmas.Cmp.{nat_cmp_total, int_cmp_total, nat_list_cmp_total, lists_total, on_total, then_total}
use Rattle.pgo_base.specs.Data.{Data, boolean, integer, string, model, set, function, Items, no_items, item, Pairs, no_pairs, pair, members}
use Rattle.pgo_base.specs.Size.{depth, items_depth, pairs_depth}
use Rattle.pgo_base.specs.Order.{kind, count, pair_count, data_cmp, items_cmp, keys_cmp, values_cmp}

abbrev bit : Bool → ℕ
bit false = 0
bit true = 1

-- the parts of a value that the order compares one after another
abbrev bit_part : Data → ℕ
bit_part (boolean b) = bit b
bit_part _ = 0

abbrev int_part : Data → ℤ
int_part (integer z) = z
int_part _ = pos 0

abbrev text_part : Data → List ℕ
text_part (string s) = s
text_part (model s) = s
text_part _ = []

abbrev size_part : Data → ℕ
size_part (set xs) = count xs
size_part (function ps) = pair_count ps
size_part _ = 0

abbrev keys : Pairs → List Data
keys no_pairs = []
keys (pair k v ps) = k ∷ keys ps

abbrev values : Pairs → List Data
values no_pairs = []
values (pair k v ps) = v ∷ values ps

abbrev key_part : Data → List Data
key_part (set xs) = members xs
key_part (function ps) = keys ps
key_part _ = []

abbrev value_part : Data → List Data
value_part (function ps) = values ps
value_part _ = []

-- the order of values that nest at most this deep
abbrev layer : (Data → Data → Ordering) → Data → Data → Ordering
layer R = then_cmp (on kind nat_cmp) (then_cmp (on bit_part nat_cmp) (then_cmp (on int_part int_cmp) (then_cmp (on text_part (slice_cmp nat_cmp)) (then_cmp (on size_part nat_cmp) (then_cmp (on key_part (slice_cmp R)) (on value_part (slice_cmp R)))))))

abbrev within : ℕ → Data → Data → Ordering
within zero = on kind nat_cmp
within (suc n) = layer (within n)

layer_total : {R : Data → Data → Ordering} → IsTotalOrder R → IsTotalOrder (layer R)
layer_total o = then_total (on_total kind nat_cmp_total) (then_total (on_total bit_part nat_cmp_total) (then_total (on_total int_part int_cmp_total) (then_total (on_total text_part nat_list_cmp_total) (then_total (on_total size_part nat_cmp_total) (then_total (on_total key_part (lists_total o)) (on_total value_part (lists_total o)))))))

within_total : (n : ℕ) → IsTotalOrder (within n)
within_total zero = on_total kind nat_cmp_total
within_total (suc n) = layer_total (within_total n)

then_equal : (o : Ordering) → ordering_then o Equal ≡ o
then_equal Less = refl
then_equal Equal = refl
then_equal Greater = refl

bit_is : (b c : Bool) → bool_cmp b c ≡ nat_cmp (bit b) (bit c)
bit_is false false = refl
bit_is false true = refl
bit_is true false = refl
bit_is true true = refl

no_depth : (x : Data) → depth x ≤ 0 → ⊥
no_depth (boolean b) h = omega arith
no_depth (integer z) h = omega arith
no_depth (string s) h = omega arith
no_depth (model s) h = omega arith
no_depth (set xs) h = omega arith
no_depth (function ps) h = omega arith

mutual
  data_is : (n : ℕ) (x y : Data) → depth x ≤ n → data_cmp x y ≡ within n x y
  data_is zero x y h = absurd (no_depth x h)
  data_is (suc n) (boolean b) (boolean c) h = bit_is b c ∙ sym (then_equal _)
  data_is (suc n) (integer y) (integer z) h = sym (then_equal _)
  data_is (suc n) (string s) (string t) h = sym (then_equal _)
  data_is (suc n) (model s) (model t) h = sym (then_equal _)
  data_is (suc n) (set xs) (set ys) h =
      ap (ordering_then (nat_cmp (count xs) (count ys))) (items_is n xs ys (omega arith) ∙ sym (then_equal _))
  data_is (suc n) (function ps) (function qs) h =
      λ i. ordering_then (nat_cmp (pair_count ps) (pair_count qs)) (ordering_then (keys_are n ps qs (omega arith) i) (values_are n ps qs (omega arith) i))
  data_is (suc n) x y h = refl

  items_is : (n : ℕ) (xs ys : Items) → items_depth xs ≤ n → items_cmp xs ys ≡ slice_cmp (within n) (members xs) (members ys)
  items_is n no_items no_items h = refl
  items_is n no_items (item y ys) h = refl
  items_is n (item x xs) no_items h = refl
  items_is n (item x xs) (item y ys) h =
      λ i. ordering_then (data_is n x y (omega arith) i) (items_is n xs ys (omega arith) i)

  keys_are : (n : ℕ) (ps qs : Pairs) → pairs_depth ps ≤ n → keys_cmp ps qs ≡ slice_cmp (within n) (keys ps) (keys qs)
  keys_are n no_pairs no_pairs h = refl
  keys_are n no_pairs (pair l w qs) h = refl
  keys_are n (pair k v ps) no_pairs h = refl
  keys_are n (pair k v ps) (pair l w qs) h =
      λ i. ordering_then (data_is n k l (omega arith) i) (keys_are n ps qs (omega arith) i)

  values_are : (n : ℕ) (ps qs : Pairs) → pairs_depth ps ≤ n → values_cmp ps qs ≡ slice_cmp (within n) (values ps) (values qs)
  values_are n no_pairs no_pairs h = refl
  values_are n no_pairs (pair l w qs) h = refl
  values_are n (pair k v ps) no_pairs h = refl
  values_are n (pair k v ps) (pair l w qs) h =
      λ i. ordering_then (data_is n v w (omega arith) i) (values_are n ps qs (omega arith) i)

-- the three laws, each from the order that is deep enough for the values it speaks of
pub data_total : IsTotalOrder data_cmp
data_total = record {
  antisymm = λ x y. let n = max (depth x) (depth y) in
      data_is n x y (omega arith) ∙ (within_total n).antisymm x y ∙ ap ordering_reverse (sym (data_is n y x (omega arith)));
  trans = λ x y z p q. let n = max (depth x) (depth y) in
      data_is n x z (omega arith) ∙ (within_total n).trans x y z (sym (data_is n x y (omega arith)) ∙ p) (sym (data_is n y z (omega arith)) ∙ q);
  congr = λ x y z p. let n = max (depth x) (depth y) in
      data_is n x z (omega arith) ∙ (within_total n).congr x y z (sym (data_is n x y (omega arith)) ∙ p) ∙ sym (data_is n y z (omega arith));
}
