-- The canonical text of a value that may be written is a value text.
use Rattle.std.proofs.Common.{◌≡◌, ◌≤◌, ◌^◌, ℕ, zero, suc, ℤ, pos, negsuc, Bool, true, false, ◌&&◌, cond, List, ◌∷◌, ◌++◌, decimal, refl, sym, ◌∙◌, ap, subst, arith, append_assoc}
use Rattle.std.specs.Prelude.{codes}
use Rattle.std.proofs.lemmas.Bool.{ltb-true, and_parts}
use Rattle.pgo_base.proofs.Keyed.{pairs_back}
use Rattle.pgo_base.specs.Data.{Data, boolean, integer, string, model, set, function, Items, no_items, item, items, members, Pairs, no_pairs, pair, pairs, graph, keys}
use Rattle.pgo_base.specs.Size.{depth, items_depth, pairs_depth}
use Rattle.pgo_base.specs.Pairs.{pairs_in_order}
use Rattle.pgo_base.specs.Sets.{IsSorted, in_order}
use Rattle.pgo_model.specs.Operators.{fits_i64}
use Rattle.pgo_model.specs.Value.{IsValue, AreValues, ArePairs}
use Rattle.pgo_model.specs.ValueText.{value_text, items_text, sequence_text, fields_text, pairs_text, is_sequence_from, all_fields}
use Rattle.pgo_value_text.specs.IsValueText.{most_depth, minus, Form, truth, number, negative, string_in_quotes, name, set_text, tuple_text, record_text, function_text, Spells, IsValueText}
use Rattle.pgo_value_text.specs.Writable.{is_spellable, are_spellable, all_spellable, IsWritable}
use Rattle.pgo_value_text.proofs.Numbers.{decimal_digits}
use Rattle.pgo_value_text.proofs.Distinct.{members_in_order, keys_in_order, sorted_distinct}
use Rattle.pgo_value_text.proofs.WrittenParts.{same_items, AllSpelled, PairsSpelled, items_listed, sequence_listed, fields_parted, mappings_parted, sequence_is}

module _ (P : List ℕ → Data → Type 0) where
  integer_form : (z : ℤ) → fits_i64 z ≡ true → Form P (value_text (integer z)) (integer z)
  integer_form (pos n) h =
      let s = ltb-true n (2 ^ 63) h in
      let d = decimal_digits n (omega arith) in
      subst (λ m. Form P (decimal n) (integer (pos m))) d.1 (number (decimal n) d.0 (ap (λ m. fits_i64 (pos m)) d.1 ∙ h))
  integer_form (negsuc n) h =
      let s = ltb-true n (2 ^ 63) h in
      let d = decimal_digits (suc n) (omega arith) in
      subst (λ m. Form P (45 ∷ decimal (suc n)) (integer (minus m))) d.1 (negative (decimal (suc n)) d.0 (ap (λ m. fits_i64 (minus m)) d.1 ∙ h))

  set_form : (xs : Items) → AllSpelled P xs → IsSorted (members xs) → Form P (value_text (set xs)) (set xs)
  set_form xs s o =
      let same : set (items (in_order (members xs))) ≡ set xs = ap (λ l. set (items l)) (members_in_order (members xs) o) ∙ ap set (same_items xs) in
      let shape : codes "{" ++ (items_text xs ++ codes "}") ≡ value_text (set xs) = sym (append_assoc (codes "{") (items_text xs) (codes "}")) in
      subst (λ v. Form P (value_text (set xs)) v) same (subst (λ l. Form P l (set (items (in_order (members xs))))) shape (set_text (items_text xs) (items_listed P xs s)))

  -- a function whose pairs are in order is the function of its pairs
  in_its_order : (ps : Pairs) → IsSorted (keys (graph ps)) → function (pairs (pairs_in_order (graph ps))) ≡ function ps
  in_its_order ps o = ap (λ l. function (pairs l)) (keys_in_order (graph ps) o) ∙ ap function (pairs_back ps)

  tuple_form : (ps : Pairs) → PairsSpelled P ps → is_sequence_from 1 ps ≡ true → Form P (codes "<<" ++ sequence_text ps ++ codes ">>") (function ps)
  tuple_form ps s h = subst (λ v. Form P (codes "<<" ++ sequence_text ps ++ codes ">>") v) (ap function (sequence_is 1 ps h)) (tuple_text (sequence_text ps) (sequence_listed P ps s))

  record_form : (k v : Data) (ps : Pairs) → PairsSpelled P (pair k v ps) → IsSorted (keys (graph (pair k v ps))) → all_fields (pair k v ps) ≡ true
      → Form P (codes "[" ++ fields_text (pair k v ps) ++ codes "]") (function (pair k v ps))
  record_form k v ps s o h =
      subst (λ w. Form P (codes "[" ++ fields_text (pair k v ps) ++ codes "]") w) (in_its_order (pair k v ps) o)
      (record_text (fields_text (pair k v ps)) (fields_parted P k v ps h s) (sorted_distinct (keys (graph (pair k v ps))) o))

  mapping_form : (k v : Data) (ps : Pairs) → PairsSpelled P (pair k v ps) → IsSorted (keys (graph (pair k v ps)))
      → Form P (codes "(" ++ pairs_text (pair k v ps) ++ codes ")") (function (pair k v ps))
  mapping_form k v ps s o =
      subst (λ w. Form P (codes "(" ++ pairs_text (pair k v ps) ++ codes ")") w) (in_its_order (pair k v ps) o)
      (function_text (pairs_text (pair k v ps)) (mappings_parted P k v ps s))

  by_form : (q r : Bool) (v : Data) (a b c : List ℕ) → (q ≡ true → Form P a v) → (q ≡ false → r ≡ true → Form P b v) → (q ≡ false → Form P c v) → Form P (cond q a (cond r b c)) v
  by_form true r v a b c f g h = f refl
  by_form false true v a b c f g h = g refl refl
  by_form false false v a b c f g h = h refl

  function_form : (ps : Pairs) → PairsSpelled P ps → IsSorted (keys (graph ps)) → Form P (value_text (function ps)) (function ps)
  function_form no_pairs s o = tuple_form no_pairs s refl
  function_form (pair k v ps) s o =
      by_form (is_sequence_from 1 (pair k v ps)) (all_fields (pair k v ps)) (function (pair k v ps)) _ _ _
      (λ q. tuple_form (pair k v ps) s q) (λ _ f. record_form k v ps s o f) (λ _. mapping_form k v ps s o)

mutual
  unfolding Spells

  spelled : (v : Data) (n : ℕ) → depth v ≤ n → IsValue v → is_spellable v ≡ true → Spells n (value_text v) v
  spelled (boolean b) zero h g p = absurd (omega arith)
  spelled (boolean b) (suc n) h g p = truth b
  spelled (integer z) zero h g p = absurd (omega arith)
  spelled (integer z) (suc n) h g p = integer_form (Spells n) z g
  spelled (string s) zero h g p = absurd (omega arith)
  spelled (string s) (suc n) h g p = string_in_quotes s p
  spelled (model x) zero h g p = absurd (omega arith)
  spelled (model x) (suc n) h g p = name x p
  spelled (set xs) zero h g p = absurd (omega arith)
  spelled (set xs) (suc n) h g p = set_form (Spells n) xs (all_spelled xs n (omega arith) g.0 p) g.1
  spelled (function ps) zero h g p = absurd (omega arith)
  spelled (function ps) (suc n) h g p = function_form (Spells n) ps (pairs_spelled ps n (omega arith) g.0 p) g.1

  all_spelled : (xs : Items) (n : ℕ) → items_depth xs ≤ n → AreValues xs → are_spellable xs ≡ true → AllSpelled (Spells n) xs
  all_spelled no_items n h g p = tt
  all_spelled (item x xs) n h g p =
      let q = and_parts (is_spellable x) (are_spellable xs) p in
      (spelled x n (omega arith) g.0 q.0, all_spelled xs n (omega arith) g.1 q.1)

  pairs_spelled : (ps : Pairs) (n : ℕ) → pairs_depth ps ≤ n → ArePairs ps → all_spellable ps ≡ true → PairsSpelled (Spells n) ps
  pairs_spelled no_pairs n h g p = tt
  pairs_spelled (pair k v ps) n h g p =
      let q = and_parts (is_spellable k && is_spellable v) (all_spellable ps) p in
      let r = and_parts (is_spellable k) (is_spellable v) q.0 in
      (spelled k n (omega arith) g.0 r.0, spelled v n (omega arith) g.1 r.1, pairs_spelled ps n (omega arith) g.2 q.1)

pub written : (v : Data) → IsWritable v → IsValueText (value_text v) v
written v h = record { spelled = spelled v most_depth h.shallow h.value h.spellable; small = h.small }
