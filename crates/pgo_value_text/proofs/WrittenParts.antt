-- The canonical text of parts is a text of a list of them.
use Rattle.std.proofs.Common.{◌≡◌, ℕ, suc, pos, true, List, [], ◌∷◌, ◌++◌, refl, ap, subst, append_assoc}
use Rattle.std.specs.Prelude.{codes}
use Rattle.std.proofs.lemmas.Bool.{eqb-true, and_parts}
use Rattle.std.proofs.lemmas.List.{append-nil}
use Rattle.pgo_base.specs.Data.{Data, integer, string, Items, no_items, item, items, members, Pairs, no_pairs, pair, pairs, graph}
use Rattle.pgo_model.specs.Operators.{sequence_at}
use Rattle.pgo_model.specs.ValueText.{value_text, items_text, sequence_text, fields_text, pairs_text, is_field, all_fields, field_text, is_number, is_sequence_from}
use Rattle.pgo_value_text.specs.IsValueText.{all_blank, Spaced, spaced, Joined, joined, none, next, Parted, parted, Listed, nothing, listed, Field, field}

items-members : (xs : Items) → items (members xs) ≡ xs
items-members no_items = refl
items-members (item x xs) = ap (item x) (items-members xs)

pub same_items : (xs : Items) → items (members xs) ≡ xs
same_items = items-members

-- ---- lists of parts

module _ {A : Type 0} (w : List ℕ) (P : List ℕ → A → Type 0) where
  one_first : {text : List ℕ} {as' : List A} (bs : List ℕ) (a : A) → P bs a → Parted w P text as' → Parted w P (bs ++ (w ++ text)) (a ∷ as')
  one_first bs a x (parted cs ds y z) = parted bs (w ++ (cs ++ ds)) x (next cs ds y z)

  only_one : (bs : List ℕ) (a : A) → P bs a → Parted w P bs (a ∷ [])
  only_one bs a x = subst (λ l. Parted w P l (a ∷ [])) (append-nil bs) (parted bs [] x none)

  -- a part with these bytes before it, and with these behind it before the word
  pub part_first : (pad t b rest : List ℕ) (a : A) (as' : List A) → P (pad ++ (t ++ b)) a → Parted w P (32 ∷ rest) as' → Parted w P (pad ++ ((t ++ (b ++ (w ++ codes " "))) ++ rest)) (a ∷ as')
  part_first pad t b rest a as' x y =
      let shape : (pad ++ (t ++ b)) ++ (w ++ 32 ∷ rest) ≡ pad ++ ((t ++ (b ++ (w ++ codes " "))) ++ rest) = simp append_assoc in
      subst (λ l. Parted w P l (a ∷ as')) shape (one_first (pad ++ (t ++ b)) a x y)

  pub last_part : (pad t : List ℕ) (a : A) → P (pad ++ (t ++ [])) a → Parted w P (pad ++ t) (a ∷ [])
  last_part pad t a x = subst (λ l. Parted w P (pad ++ l) (a ∷ [])) (append-nil t) (only_one (pad ++ (t ++ [])) a x)

-- the values of a function, in the order of its keys
abbrev pub values : Pairs → List Data
values no_pairs = []
values (pair k v ps) = v ∷ values ps

module _ (P : List ℕ → Data → Type 0) where
  -- each member, and each key and value, is spelled by its canonical text
  abbrev pub AllSpelled : Items → Type 0
  AllSpelled no_items = Unit {0}
  AllSpelled (item x xs) = P (value_text x) x × AllSpelled xs

  abbrev pub PairsSpelled : Pairs → Type 0
  PairsSpelled no_pairs = Unit {0}
  PairsSpelled (pair k v ps) = P (value_text k) k × P (value_text v) v × PairsSpelled ps

  in_blanks : (pad t b : List ℕ) (x : Data) → all_blank pad ≡ true → P t x → all_blank b ≡ true → Spaced P (pad ++ (t ++ b)) x
  in_blanks pad t b x h s g = spaced pad t b h s g

  items_parted : (pad : List ℕ) (x : Data) (xs : Items) → all_blank pad ≡ true → AllSpelled (item x xs) → Parted (codes ",") (Spaced P) (pad ++ items_text (item x xs)) (members (item x xs))
  items_parted pad x no_items h s = last_part (codes ",") (Spaced P) pad (value_text x) x (in_blanks pad (value_text x) [] x h s.0 refl)
  items_parted pad x (item y ys) h s =
      part_first (codes ",") (Spaced P) pad (value_text x) [] (items_text (item y ys)) x (members (item y ys)) (in_blanks pad (value_text x) [] x h s.0 refl) (items_parted (codes " ") y ys refl s.1)

  pub items_listed : (xs : Items) → AllSpelled xs → Listed P (items_text xs) (members xs)
  items_listed no_items s = nothing refl
  items_listed (item x xs) s = listed (items_parted [] x xs refl s)

  -- ---- tuples

  sequence_parted : (pad : List ℕ) (k v : Data) (ps : Pairs) → all_blank pad ≡ true → PairsSpelled (pair k v ps) → Parted (codes ",") (Spaced P) (pad ++ sequence_text (pair k v ps)) (values (pair k v ps))
  sequence_parted pad k v no_pairs h s = last_part (codes ",") (Spaced P) pad (value_text v) v (in_blanks pad (value_text v) [] v h s.1 refl)
  sequence_parted pad k v (pair l w ps) h s =
      part_first (codes ",") (Spaced P) pad (value_text v) [] (sequence_text (pair l w ps)) v (values (pair l w ps)) (in_blanks pad (value_text v) [] v h s.1 refl) (sequence_parted (codes " ") l w ps refl s.2)

  pub sequence_listed : (ps : Pairs) → PairsSpelled ps → Listed P (sequence_text ps) (values ps)
  sequence_listed no_pairs s = nothing refl
  sequence_listed (pair k v ps) s = listed (sequence_parted [] k v ps refl s)

  -- ---- records

  field_is : (k : Data) → is_field k ≡ true → Field (field_text k) k
  field_is (string s) h = field h
  field_is _ h = absurd (cc)

  field_part : (pad : List ℕ) (k v : Data) → all_blank pad ≡ true → is_field k ≡ true → P (value_text v) v → Joined (codes "|->") (Spaced Field) (Spaced P) (pad ++ ((field_text k ++ codes " |-> " ++ value_text v) ++ [])) (k, v)
  field_part pad k v h f s =
      let x : List ℕ = field_text k in
      let y : List ℕ = value_text v in
      let shape : (pad ++ (x ++ codes " ")) ++ (codes "|->" ++ (codes " " ++ (y ++ []))) ≡ pad ++ ((x ++ codes " |-> " ++ y) ++ []) = simp append_assoc in
      subst (λ l. Joined (codes "|->") (Spaced Field) (Spaced P) l (k, v)) shape
      (joined (pad ++ (x ++ codes " ")) (codes " " ++ (y ++ [])) (spaced pad x (codes " ") h (field_is k f) refl) (spaced (codes " ") y [] refl s refl))

  fields_from : (pad : List ℕ) (k v : Data) (ps : Pairs) → all_blank pad ≡ true → all_fields (pair k v ps) ≡ true → PairsSpelled (pair k v ps)
      → Parted (codes ",") (Joined (codes "|->") (Spaced Field) (Spaced P)) (pad ++ fields_text (pair k v ps)) (graph (pair k v ps))
  fields_from pad k v no_pairs h f s =
      last_part (codes ",") _ pad (field_text k ++ codes " |-> " ++ value_text v) (k, v) (field_part pad k v h (and_parts (is_field k) true f).0 s.1)
  fields_from pad k v (pair l w ps) h f s =
      let d = and_parts (is_field k) (all_fields (pair l w ps)) f in
      part_first (codes ",") _ pad (field_text k ++ codes " |-> " ++ value_text v) [] (fields_text (pair l w ps)) (k, v) (graph (pair l w ps)) (field_part pad k v h d.0 s.1) (fields_from (codes " ") l w ps refl d.1 s.2)

  pub fields_parted : (k v : Data) (ps : Pairs) → all_fields (pair k v ps) ≡ true → PairsSpelled (pair k v ps)
      → Parted (codes ",") (Joined (codes "|->") (Spaced Field) (Spaced P)) (fields_text (pair k v ps)) (graph (pair k v ps))
  fields_parted k v ps f s = fields_from [] k v ps refl f s

  -- ---- other functions

  mapping_part : (pad b : List ℕ) (k v : Data) → all_blank pad ≡ true → all_blank b ≡ true → P (value_text k) k → P (value_text v) v → Joined (codes ":>") (Spaced P) (Spaced P) (pad ++ ((value_text k ++ codes " :> " ++ value_text v) ++ b)) (k, v)
  mapping_part pad b k v h g q s =
      let x : List ℕ = value_text k in
      let y : List ℕ = value_text v in
      let shape : (pad ++ (x ++ codes " ")) ++ (codes ":>" ++ (codes " " ++ (y ++ b))) ≡ pad ++ ((x ++ codes " :> " ++ y) ++ b) = simp append_assoc in
      subst (λ l. Joined (codes ":>") (Spaced P) (Spaced P) l (k, v)) shape
      (joined (pad ++ (x ++ codes " ")) (codes " " ++ (y ++ b)) (spaced pad x (codes " ") h q refl) (spaced (codes " ") y b refl s g))

  mappings_from : (pad : List ℕ) (k v : Data) (ps : Pairs) → all_blank pad ≡ true → PairsSpelled (pair k v ps)
      → Parted (codes "@@") (Joined (codes ":>") (Spaced P) (Spaced P)) (pad ++ pairs_text (pair k v ps)) (graph (pair k v ps))
  mappings_from pad k v no_pairs h s =
      last_part (codes "@@") _ pad (value_text k ++ codes " :> " ++ value_text v) (k, v) (mapping_part pad [] k v h refl s.0 s.1)
  mappings_from pad k v (pair l w ps) h s =
      part_first (codes "@@") _ pad (value_text k ++ codes " :> " ++ value_text v) (codes " ") (pairs_text (pair l w ps)) (k, v) (graph (pair l w ps)) (mapping_part pad (codes " ") k v h refl s.0 s.1) (mappings_from (codes " ") l w ps refl s.2)

  pub mappings_parted : (k v : Data) (ps : Pairs) → PairsSpelled (pair k v ps) → Parted (codes "@@") (Joined (codes ":>") (Spaced P) (Spaced P)) (pairs_text (pair k v ps)) (graph (pair k v ps))
  mappings_parted k v ps s = mappings_from [] k v ps refl s

number_is : (n : ℕ) (k : Data) → is_number n k ≡ true → integer (pos n) ≡ k
number_is n (integer (pos m)) h = ap (λ i. integer (pos i)) (eqb-true n m h)
number_is n _ h = absurd (cc)

-- a function whose keys are n, n + 1 and so on is that of its values
pub sequence_is : (n : ℕ) (ps : Pairs) → is_sequence_from n ps ≡ true → pairs (sequence_at n (values ps)) ≡ ps
sequence_is n no_pairs h = refl
sequence_is n (pair k v ps) h =
    let p = and_parts (is_number n k) (is_sequence_from (suc n) ps) h in
    λ i. pair (number_is n k p.0 i) v (sequence_is (suc n) ps p.1 i)
