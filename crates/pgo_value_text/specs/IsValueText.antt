-- Which texts are texts of which value, by cases over bytes.
use Rattle.std.specs.Prelude.{ℕ, zero, suc, ◌+◌, ◌-◌, ℤ, pos, negsuc, Bool, true, false, ◌&&◌, ◌||◌, nat_eq, nat_le, IsTrue, List, [], ◌∷◌, ◌++◌, codes, length}
use Rattle.pgo_base.specs.Data.{Data, boolean, integer, string, model, set, function, Items, no_items, item, items, members, Pairs, no_pairs, pair, pairs, graph, keys}
pub use Rattle.pgo_base.specs.Lists.{StandOnce}
use Rattle.pgo_base.specs.Pairs.{pairs_in_order}
use Rattle.pgo_base.specs.Sets.{in_order}
use Rattle.pgo_model.specs.Operators.{fits_i64, sequence_at, most_members}
use Rattle.pgo_model.specs.ValueText.{string_text, truth_text}
pub use Rattle.pgo_model.specs.ValueText.{all_digits, number_from, number_of, is_read_name as is_name}
use Rattle.pgo_model.specs.BundleParts.{all_string_bytes}

-- how deep a text may nest
abbrev pub most_depth : ℕ
most_depth = 1024

-- ---- words

-- a space or a tab
abbrev pub is_blank : ℕ → Bool
is_blank b = nat_eq b 32 || nat_eq b 9

abbrev pub all_blank : List ℕ → Bool
all_blank [] = true
all_blank (b ∷ bs) = is_blank b && all_blank bs

-- one digit or more; leading zeros may stand among them
abbrev pub are_digits : List ℕ → Bool
are_digits [] = false
are_digits (b ∷ bs) = all_digits (b ∷ bs)

-- the integer of a number behind a `-`
abbrev pub minus : ℕ → ℤ
minus zero = pos zero
minus (suc n) = negsuc n

-- ---- lists of parts

-- an A with blanks, or none, before it and behind it
pub data Spaced {A : Type 0} (P : List ℕ → A → Type 0) : List ℕ → A → Type 0 where
  spaced : (before bs behind : List ℕ) {a : A} → IsTrue (all_blank before) → P bs a → IsTrue (all_blank behind) → Spaced P (before ++ (bs ++ behind)) a

-- an A, this word and a B
pub data Joined {A B : Type 0} (word : List ℕ) (P : List ℕ → A → Type 0) (Q : List ℕ → B → Type 0) : List ℕ → A × B → Type 0 where
  joined : (bs cs : List ℕ) {a : A} {b : B} → P bs a → Q cs b → Joined word P Q (bs ++ (word ++ cs)) (a, b)

-- some A, each behind this word
pub data Followed {A : Type 0} (word : List ℕ) (P : List ℕ → A → Type 0) : List ℕ → List A → Type 0 where
  none : Followed word P [] []
  next : (bs cs : List ℕ) {a : A} {as' : List A} → P bs a → Followed word P cs as' → Followed word P (word ++ (bs ++ cs)) (a ∷ as')

-- one A or more, parted by this word
pub data Parted {A : Type 0} (word : List ℕ) (P : List ℕ → A → Type 0) : List ℕ → List A → Type 0 where
  parted : (bs cs : List ℕ) {a : A} {as' : List A} → P bs a → Followed word P cs as' → Parted word P (bs ++ cs) (a ∷ as')

-- no A, or some that are parted by commas, with blanks around each
pub data Listed {A : Type 0} (P : List ℕ → A → Type 0) : List ℕ → List A → Type 0 where
  nothing : {bs : List ℕ} → IsTrue (all_blank bs) → Listed P bs []
  listed : {bs : List ℕ} {as' : List A} → Parted (codes ",") (Spaced P) bs as' → Listed P bs as'

-- ---- values

-- a record's field, which is a string of the function's domain
pub data Field : List ℕ → Data → Type 0 where
  field : {x : List ℕ} → IsTrue (is_name x) → Field x (string x)

-- a text of a value whose parts are spelled as P says; blanks stand between its tokens alone
pub data Form (P : List ℕ → Data → Type 0) : List ℕ → Data → Type 0 where
  -- TRUE, FALSE
  truth : (b : Bool) → Form P (truth_text b) (boolean b)
  -- 12, of 64 bits
  number : (ds : List ℕ) → IsTrue (are_digits ds) → IsTrue (fits_i64 (pos (number_of ds))) → Form P ds (integer (pos (number_of ds)))
  -- -12, of 64 bits
  negative : (ds : List ℕ) → IsTrue (are_digits ds) → IsTrue (fits_i64 (minus (number_of ds))) → Form P (codes "-" ++ ds) (integer (minus (number_of ds)))
  -- "a": the canonical text of a string of newlines, tabs and bytes 32 to 126
  string_in_quotes : (s : List ℕ) → IsTrue (all_string_bytes s) → Form P (string_text s) (string s)
  -- a
  name : (x : List ℕ) → IsTrue (is_name x) → Form P x (model x)
  -- {a, b}: in any order, and repeated
  set_text : (bs : List ℕ) {xs : List Data} → Listed P bs xs → Form P (codes "{" ++ (bs ++ codes "}")) (set (items (in_order xs)))
  -- <<a, b>>
  tuple_text : (bs : List ℕ) {xs : List Data} → Listed P bs xs → Form P (codes "<<" ++ (bs ++ codes ">>")) (function (pairs (sequence_at 1 xs)))
  -- [a |-> 1, b |-> 2]: fields in any order, none twice
  record_text : (bs : List ℕ) {ps : List (Data × Data)} → Parted (codes ",") (Joined (codes "|->") (Spaced Field) (Spaced P)) bs ps → StandOnce (keys ps)
      → Form P (codes "[" ++ (bs ++ codes "]")) (function (pairs (pairs_in_order ps)))
  -- (k :> v @@ l :> w): in any order, and of several pairs with one key the left one holds
  function_text : (bs : List ℕ) {ps : List (Data × Data)} → Parted (codes "@@") (Joined (codes ":>") (Spaced P) (Spaced P)) bs ps
      → Form P (codes "(" ++ (bs ++ codes ")")) (function (pairs (pairs_in_order ps)))

-- a text of a value, which nests at most n deep: an integer is 1 deep, a set one more than its deepest part
unfoldable pub Spells : ℕ → List ℕ → Data → Type 0
Spells zero bs v = ⊥
Spells (suc n) bs v = Form (Spells n) bs v

abbrev mutual
  -- no set and no function in a value has more than 65,536 members
  pub is_small : Data → Bool
  is_small (boolean b) = true
  is_small (integer z) = true
  is_small (string s) = true
  is_small (model x) = true
  is_small (set xs) = nat_le (length (members xs)) most_members && are_small xs
  is_small (function ps) = nat_le (length (graph ps)) most_members && all_small ps

  pub are_small : Items → Bool
  are_small no_items = true
  are_small (item x xs) = is_small x && are_small xs

  pub all_small : Pairs → Bool
  all_small no_pairs = true
  all_small (pair k v ps) = (is_small k && is_small v) && all_small ps

-- the bytes are a text of the value
pub record IsValueText (bs : List ℕ) (v : Data) : Type 0 where
  pub spelled : Spells most_depth bs v
  pub small : IsTrue (is_small v)
