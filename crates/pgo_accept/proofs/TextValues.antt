-- What holds of the value of each text, from what holds of a value where it holds of its parts.
use Rattle.std.proofs.Common.{◌≡◌, ◌≤◌, ◌+◌, ◌^◌, ℕ, zero, suc, ℤ, pos, Bool, IsTrue, List, [], ◌∷◌, length, sym, ◌∙◌, ap, subst, arith}
use Rattle.std.proofs.lemmas.Bool.{and_parts, leb-true, lt-ltb}
use Rattle.std.specs.declared.cmp.Ordering.{Ordering}
use Rattle.std.specs.declared.cmp.Ordering.TheVariants.{Less, Equal, Greater}
use Rattle.std.specs.List.{AllByRecursion}
use Rattle.std.specs.Ordering.{match_ordering}
use Rattle.std.specs.Prelude.{nat_le}
use Rattle.pgo_base.specs.Data.{Data, boolean, integer, string, model, set, function, items, members, members-items, pairs, graph, graph-pairs, keys}
use Rattle.pgo_base.specs.Order.{data_cmp}
use Rattle.pgo_base.specs.Pairs.{insert_pair, pairs_in_order}
use Rattle.pgo_base.specs.Sets.{IsSorted, insert_member, in_order, sorted-in_order}
use Rattle.pgo_base.proofs.Keyed.{sorted_pairs_in_order}
use Rattle.pgo_model.specs.BundleParts.{all_string_bytes}
use Rattle.pgo_model.specs.Operators.{fits_i64, sequence_at, most_members}
use Rattle.pgo_value_text.specs.IsValueText.{IsValueText, is_name, most_depth, Spaced, spaced, Joined, joined, Followed, none, next, Parted, parted, Listed, nothing, listed, Field, field, Form, truth, number, negative, string_in_quotes, name, set_text, tuple_text, record_text, function_text, Spells, is_small, are_small, all_small}
use Rattle.pgo_value_text.proofs.Numbered.{length-sequence_at, sorted_sequence}

-- it holds of both parts of a pair
abbrev pub OfPair : (Data → Type 0) → Data × Data → Type 0
OfPair Q p = Q p.0 × Q p.1

-- ---- lists in order

module _ (Q : Data → Type 0) where
  all_inserted : (x : Data) (ys : List Data) → Q x → AllByRecursion Q ys → AllByRecursion Q (insert_member x ys)
  all_inserted x [] h hs = (h, tt)
  all_inserted x (y ∷ ys) h hs = go (data_cmp x y) (all_inserted x ys h hs.1)
    where
      go : (o : Ordering) → AllByRecursion Q (insert_member x ys) → AllByRecursion Q (match_ordering o (x ∷ y ∷ ys) (y ∷ ys) (y ∷ insert_member x ys))
      go Less r = (h, hs)
      go Equal r = hs
      go Greater r = (hs.0, r)

  pub all_in_order : (xs : List Data) → AllByRecursion Q xs → AllByRecursion Q (in_order xs)
  all_in_order [] hs = tt
  all_in_order (x ∷ xs) hs = all_inserted x (in_order xs) hs.0 (all_in_order xs hs.1)

  pair_inserted : (p : Data × Data) (qs : List (Data × Data)) → OfPair Q p → AllByRecursion (OfPair Q) qs → AllByRecursion (OfPair Q) (insert_pair p qs)
  pair_inserted p [] h hs = (h, tt)
  pair_inserted p (q ∷ qs) h hs = go (data_cmp p.0 q.0) (pair_inserted p qs h hs.1)
    where
      go : (o : Ordering) → AllByRecursion (OfPair Q) (insert_pair p qs) → AllByRecursion (OfPair Q) (match_ordering o (p ∷ q ∷ qs) (p ∷ qs) (q ∷ insert_pair p qs))
      go Less r = (h, hs)
      go Equal r = (h, hs.1)
      go Greater r = (hs.0, r)

  pub all_pairs_in_order : (ps : List (Data × Data)) → AllByRecursion (OfPair Q) ps → AllByRecursion (OfPair Q) (pairs_in_order ps)
  all_pairs_in_order [] hs = tt
  all_pairs_in_order (p ∷ ps) hs = pair_inserted p (pairs_in_order ps) hs.0 (all_pairs_in_order ps hs.1)

-- ---- parts of a text

module _ {A : Type 0} (P : List ℕ → A → Type 0) (Q : A → Type 0) (f : (bs : List ℕ) (a : A) → P bs a → Q a) where
  pub spaced_part : (bs : List ℕ) (a : A) → Spaced P bs a → Q a
  spaced_part bs a (spaced before cs behind h p k) = f cs _ p

  followed_parts : (word bs : List ℕ) (xs : List A) → Followed word P bs xs → AllByRecursion Q xs
  followed_parts word bs xs none = tt
  followed_parts word bs xs (next cs ds p ps) = (f cs _ p, followed_parts word ds _ ps)

  pub parted_parts : (word bs : List ℕ) (xs : List A) → Parted word P bs xs → AllByRecursion Q xs
  parted_parts word bs xs (parted cs ds p ps) = (f cs _ p, followed_parts word ds _ ps)

pub listed_parts : (P : List ℕ → Data → Type 0) (Q : Data → Type 0) → ((bs : List ℕ) (v : Data) → P bs v → Q v) → (bs : List ℕ) (xs : List Data) → Listed P bs xs → AllByRecursion Q xs
listed_parts P Q f bs xs (nothing h) = tt
listed_parts P Q f bs xs (listed ps) = parted_parts (Spaced P) Q (spaced_part P Q f) _ bs xs ps

pub joined_part : (word : List ℕ) (P R : List ℕ → Data → Type 0) (Q : Data → Type 0) → ((bs : List ℕ) (v : Data) → P bs v → Q v) → ((bs : List ℕ) (v : Data) → R bs v → Q v)
    → (bs : List ℕ) (p : Data × Data) → Joined word P R bs p → OfPair Q p
joined_part word P R Q f g bs p (joined cs ds h k) = (f cs _ h, g ds _ k)

-- ---- values

-- it holds of values without parts, and of small sets and functions where it holds of their parts
pub record OfTexts (Q : Data → Type 0) : Type 0 where
  pub of_truth : (b : Bool) → Q (boolean b)
  pub of_number : (z : ℤ) → IsTrue (fits_i64 z) → Q (integer z)
  pub of_string : (s : List ℕ) → IsTrue (all_string_bytes s) → Q (string s)
  pub of_name : (x : List ℕ) → IsTrue (is_name x) → Q (model x)
  pub of_field : (x : List ℕ) → IsTrue (is_name x) → Q (string x)
  pub of_set : (xs : List Data) → AllByRecursion Q xs → IsSorted (members (items xs)) → IsTrue (nat_le (length (members (items xs))) most_members) → Q (set (items xs))
  pub of_function : (ps : List (Data × Data)) → AllByRecursion (OfPair Q) ps → IsSorted (keys (graph (pairs ps))) → IsTrue (nat_le (length (graph (pairs ps))) most_members)
      → Q (function (pairs ps))

module _ (Q : Data → Type 0) (is : OfTexts Q) where
  -- where it is small
  abbrev Sound : Data → Type 0
  Sound v = IsTrue (is_small v) → Q v

  -- small parts are so
  all_values : (xs : List Data) → AllByRecursion Sound xs → IsTrue (are_small (items xs)) → AllByRecursion Q xs
  all_values [] hs s = tt
  all_values (x ∷ xs) hs s = let both = and_parts _ _ s in (hs.0 both.0, all_values xs hs.1 both.1)

  all_pairs : (ps : List (Data × Data)) → AllByRecursion (OfPair Sound) ps → IsTrue (all_small (pairs ps)) → AllByRecursion (OfPair Q) ps
  all_pairs [] hs s = tt
  all_pairs (p ∷ ps) hs s =
      let both = and_parts _ _ s in
      let two = and_parts _ _ both.0 in
      ((hs.0.0 two.0, hs.0.1 two.1), all_pairs ps hs.1 both.1)

  -- the places of a sequence have 64 bits
  places_sound : (n : ℕ) (xs : List Data) → n + length xs ≤ 2 ^ 63 → AllByRecursion Sound xs → AllByRecursion (OfPair Sound) (sequence_at n xs)
  places_sound n [] l hs = tt
  places_sound n (x ∷ xs) l hs = ((λ s. is.of_number (pos n) (lt-ltb n (2 ^ 63) (omega (arith, l))), hs.0), places_sound (suc n) xs (omega (arith, l)) hs.1)

  field_sound : (bs : List ℕ) (v : Data) → Field bs v → Sound v
  field_sound bs v (field {x = x} h) = λ s. is.of_field x h

  -- a function of these pairs
  function_sound : (ps : List (Data × Data)) → AllByRecursion (OfPair Sound) ps → IsSorted (keys ps) → Sound (function (pairs ps))
  function_sound ps hs o = λ s. is.of_function ps (all_pairs ps hs (and_parts _ _ s).1) (subst (λ qs. IsSorted (keys qs)) (sym (graph-pairs ps)) o) (and_parts _ _ s).0

  set_sound : (xs : List Data) → AllByRecursion Sound xs → Sound (set (items (in_order xs)))
  set_sound xs hs = λ s.
      is.of_set (in_order xs) (all_values (in_order xs) (all_in_order Sound xs hs) (and_parts _ _ s).1) (subst IsSorted (sym (members-items (in_order xs))) (sorted-in_order xs))
      (and_parts _ _ s).0

  tuple_sound : (xs : List Data) → AllByRecursion Sound xs → Sound (function (pairs (sequence_at 1 xs)))
  tuple_sound xs hs = λ s.
      let few = leb-true (length (graph (pairs (sequence_at 1 xs)))) most_members (and_parts _ _ s).0 in
      let same : length (graph (pairs (sequence_at 1 xs))) ≡ length xs = ap length (graph-pairs (sequence_at 1 xs)) ∙ length-sequence_at 1 xs in
      function_sound (sequence_at 1 xs) (places_sound 1 xs (omega (arith, few, same)) hs) (sorted_sequence 1 xs) s

  form_sound : (P : List ℕ → Data → Type 0) → ((bs : List ℕ) (v : Data) → P bs v → Sound v) → (bs : List ℕ) (v : Data) → Form P bs v → Sound v
  form_sound P f bs v (truth b) = λ s. is.of_truth b
  form_sound P f bs v (number ds h fits) = λ s. is.of_number _ fits
  form_sound P f bs v (negative ds h fits) = λ s. is.of_number _ fits
  form_sound P f bs v (string_in_quotes t h) = λ s. is.of_string t h
  form_sound P f bs v (name x h) = λ s. is.of_name x h
  form_sound P f bs v (set_text cs {xs} l) = set_sound xs (listed_parts P Sound f cs xs l)
  form_sound P f bs v (tuple_text cs {xs} l) = tuple_sound xs (listed_parts P Sound f cs xs l)
  form_sound P f bs v (record_text cs {ps} l h) =
      function_sound (pairs_in_order ps)
      (all_pairs_in_order Sound ps (parted_parts _ (OfPair Sound) (joined_part _ _ _ Sound (spaced_part Field Sound field_sound) (spaced_part P Sound f)) _ cs ps l)) (sorted_pairs_in_order ps)
  form_sound P f bs v (function_text cs {ps} l) =
      function_sound (pairs_in_order ps)
      (all_pairs_in_order Sound ps (parted_parts _ (OfPair Sound) (joined_part _ _ _ Sound (spaced_part P Sound f) (spaced_part P Sound f)) _ cs ps l)) (sorted_pairs_in_order ps)

  text_sound : (n : ℕ) (bs : List ℕ) (v : Data) → Spells n bs v → Sound v
  unfolding Spells
  text_sound zero bs v h = absurd h
  text_sound (suc n) bs v h = form_sound (Spells n) (text_sound n) bs v h

  -- the value of a text
  pub text_value : (bs : List ℕ) (v : Data) → IsValueText bs v → Q v
  text_value bs v h = text_sound most_depth bs v h.spelled h.small
