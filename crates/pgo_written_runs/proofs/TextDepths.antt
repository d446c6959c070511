-- The value of a text is no deeper than the text may nest.
use Rattle.std.proofs.Common.{◌≡◌, ◌≤◌, ℕ, zero, suc, List, [], ◌∷◌, refl, arith}
use Rattle.std.specs.List.{AllByRecursion}
use Rattle.pgo_base.specs.Data.{Data, integer, string, set, function, items, pairs}
use Rattle.pgo_base.specs.Pairs.{pairs_in_order}
use Rattle.pgo_base.specs.Sets.{in_order}
use Rattle.pgo_base.specs.Size.{depth, items_depth, pairs_depth}
use Rattle.pgo_model.specs.Operators.{sequence_at}
use Rattle.pgo_value_text.specs.IsValueText.{IsValueText, most_depth, Spaced, Joined, joined, Field, field, Form, truth, number, negative, string_in_quotes, name, set_text, tuple_text, record_text, function_text, Spells}
use Rattle.pgo_accept.proofs.TextValues.{OfPair, all_in_order, all_pairs_in_order, spaced_part, parted_parts, listed_parts, joined_part}

module _ (n : ℕ) where
  abbrev Low : Data → Type 0
  Low v = depth v ≤ n

  items_low : (xs : List Data) → AllByRecursion Low xs → items_depth (items xs) ≤ n
  items_low [] hs = omega arith
  items_low (x ∷ xs) hs = let a = hs.0 in let b = items_low xs hs.1 in omega (arith, a, b)

  graph_low : (ps : List (Data × Data)) → AllByRecursion (OfPair Low) ps → pairs_depth (pairs ps) ≤ n
  graph_low [] hs = omega arith
  graph_low (p ∷ ps) hs = let a = hs.0.0 in let b = hs.0.1 in let c = graph_low ps hs.1 in omega (arith, a, b, c)

  positive : (v : Data) → 1 ≤ depth v
  positive (string s) = omega arith
  positive (integer z) = omega arith
  positive (set xs) = omega arith
  positive (function ps) = omega arith
  positive _ = omega arith

  places_low : (k : ℕ) (xs : List Data) → AllByRecursion Low xs → AllByRecursion (OfPair Low) (sequence_at k xs)
  places_low k [] hs = tt
  places_low k (x ∷ xs) hs = ((let a = positive x in let b = hs.0 in omega (arith, a, b), hs.0), places_low (suc k) xs hs.1)

  -- a field's name is one deep, as its value is at least
  field_pair : (P : List ℕ → Data → Type 0) → ((bs : List ℕ) (v : Data) → P bs v → Low v) → (word bs : List ℕ) (p : Data × Data) → Joined word (Spaced Field) (Spaced P) bs p → OfPair Low p
  field_pair P f word bs p (joined cs ds {a = k} {b = v} h g) =
      let low : Low v = spaced_part P Low f ds v g in
      let one : depth k ≡ 1 = spaced_part Field (λ k. depth k ≡ 1) (λ bs k h. is_one bs k h) cs k h in
      let many = positive v in
      (omega (arith, low, one, many), low)
    where
      is_one : (bs : List ℕ) (k : Data) → Field bs k → depth k ≡ 1
      is_one bs k (field h) = refl

  form_low : (P : List ℕ → Data → Type 0) → ((bs : List ℕ) (v : Data) → P bs v → Low v) → (bs : List ℕ) (v : Data) → Form P bs v → depth v ≤ suc n
  form_low P f bs v (truth b) = omega arith
  form_low P f bs v (number ds h fits) = omega arith
  form_low P f bs v (negative ds h fits) = omega arith
  form_low P f bs v (string_in_quotes t h) = omega arith
  form_low P f bs v (name x h) = omega arith
  form_low P f bs v (set_text cs {xs} l) = let q = items_low (in_order xs) (all_in_order Low xs (listed_parts P Low f cs xs l)) in omega (arith, q)
  form_low P f bs v (tuple_text cs {xs} l) = let q = graph_low (sequence_at 1 xs) (places_low 1 xs (listed_parts P Low f cs xs l)) in omega (arith, q)
  form_low P f bs v (record_text cs {ps} l h) =
      let q = graph_low (pairs_in_order ps) (all_pairs_in_order Low ps (parted_parts _ (OfPair Low) (field_pair P f _) _ cs ps l)) in omega (arith, q)
  form_low P f bs v (function_text cs {ps} l) =
      let q = graph_low (pairs_in_order ps) (all_pairs_in_order Low ps (parted_parts _ (OfPair Low) (joined_part _ _ _ Low (spaced_part P Low f) (spaced_part P Low f)) _ cs ps l)) in omega (arith, q)

text_low : (n : ℕ) (bs : List ℕ) (v : Data) → Spells n bs v → depth v ≤ n
unfolding Spells
text_low zero bs v h = absurd h
text_low (suc n) bs v h = form_low n (Spells n) (text_low n) bs v h

pub value_low : (bs : List ℕ) (v : Data) → IsValueText bs v → depth v ≤ most_depth
value_low bs v h = text_low most_depth bs v h.spelled
