-- The value of a text is within limits that the strings and names of such texts are within.
use Rattle.std.proofs.Common.{◌≡◌, true, ℕ, IsTrue, List, [], ◌∷◌, length, refl}
use Rattle.std.proofs.lemmas.Bool.{leb-true}
use Rattle.std.specs.List.{AllByRecursion}
use Rattle.pgo_base.specs.Data.{Data, items, members, pairs, graph}
use Rattle.pgo_model.specs.BundleParts.{all_string_bytes}
use Rattle.pgo_model.specs.Operators.{most_members}
use Rattle.pgo_value_text.specs.IsValueText.{IsValueText, is_name}
use Rattle.pgo_systems.specs.Counted.{IsCounted, counted}
use Rattle.pgo_values.specs.Limits.{Limits}
use Rattle.pgo_values.specs.Within.{IsWithin, AreWithin, PairsWithin}
use Rattle.pgo_accept.proofs.TextValues.{OfPair, OfTexts, text_value}

module _ (limits : Limits) (strings : (x : List ℕ) → all_string_bytes x ≡ true → IsTrue (limits.text x)) (fields : (x : List ℕ) → is_name x ≡ true → IsTrue (limits.text x)) (names : (x : List ℕ) → is_name x ≡ true → IsTrue (limits.model x)) where
  all_within : (xs : List Data) → AllByRecursion (IsWithin limits) xs → AreWithin limits (items xs)
  all_within [] hs = tt
  all_within (x ∷ xs) hs = (hs.0, all_within xs hs.1)

  pairs_within : (ps : List (Data × Data)) → AllByRecursion (OfPair (IsWithin limits)) ps → PairsWithin limits (pairs ps)
  pairs_within [] hs = tt
  pairs_within (p ∷ ps) hs = (hs.0.0, hs.0.1, pairs_within ps hs.1)

  texts_within : OfTexts (IsWithin limits)
  texts_within = record {
    of_truth = λ b. tt;
    of_number = limits.numbers_fit;
    of_string = strings;
    of_name = names;
    of_field = fields;
    of_set = λ xs hs o few. (all_within xs hs, o, limits.few_members (length (members (items xs))) (leb-true (length (members (items xs))) most_members few));
    of_function = λ ps hs o few. (pairs_within ps hs, o, limits.few_pairs (length (graph (pairs ps))) (leb-true (length (graph (pairs ps))) most_members few));
  }

  pub value_within : (bs : List ℕ) (v : Data) → IsValueText bs v → IsWithin limits v
  value_within bs v h = text_value (IsWithin limits) texts_within bs v h

pub value_counted : (bs : List ℕ) (v : Data) → IsValueText bs v → IsCounted v
value_counted bs v h = value_within counted (λ x h. refl) (λ x h. refl) (λ x h. refl) bs v h
