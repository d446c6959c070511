-- The reader as functions on bytes, in the shape of the code.
use Rattle.std.specs.Prelude.{ℕ, zero, suc, ◌+◌, ◌-◌, ◌*◌, ◌^◌, ℤ, pos, Bool, true, false, ◌&&◌, nat_eq, nat_lt, if◌then◌else◌, List, [], ◌∷◌, ◌++◌, length, take, drop, codes, Option, Some, None, option_and_then}
use Rattle.std.specs.List.{prefix_len}
use Rattle.pgo_base.specs.Data.{Data, boolean, integer, string, model, set, function, items, pairs}
use Rattle.pgo_base.specs.Pairs.{pairs_in_order}
use Rattle.pgo_base.specs.Sets.{in_order}
use Rattle.pgo_model.specs.Operators.{fits_i64, sequence_at}
use Rattle.pgo_model.specs.ValueText.{is_digit, is_word_byte, same_bytes}
pub use Rattle.pgo_model.specs.ValueText.{is_printed as is_printable, is_beginning as begins}
use Rattle.pgo_value_text.specs.IsValueText.{is_blank, is_name, are_digits, minus, most_depth, is_small}
use Rattle.pgo_value_text.specs.declared.read.PairForm.{PairForm}
use Rattle.pgo_value_text.specs.declared.read.PairForm.TheVariants.{Fields, Mappings}
use Rattle.pgo_value_text.specs.Parsers.{Outcome, Parser, ◌>>=◌, ◌>>◌, pure, give}

-- ---- bytes

-- these bytes
abbrev pub expect : List ℕ → Parser (Unit {0})
expect [] bs = Some (tt, bs)
expect (w ∷ ws) [] = None
expect (w ∷ ws) (b ∷ bs) = if nat_eq w b then expect ws bs else None

-- the bytes at the front that pass a test, and those behind them
abbrev pub front : (ℕ → Bool) → List ℕ → List ℕ
front p bs = take (prefix_len p bs) bs

abbrev pub behind : (ℕ → Bool) → List ℕ → List ℕ
behind p bs = drop (prefix_len p bs) bs

-- the longest run of letters, digits and `_`
abbrev pub word : Parser (List ℕ)
word bs = Some (front is_word_byte bs, behind is_word_byte bs)

-- blanks, or none
abbrev pub blanks : Parser (Unit {0})
blanks bs = Some (tt, behind is_blank bs)

-- whether these bytes are next behind blanks
abbrev pub is_before : List ℕ → List ℕ → Bool
is_before w bs = begins w (behind is_blank bs)

-- ---- integers

-- the greatest number of 64 bits
abbrev pub most : ℕ
most = 2 ^ 64 - 1

-- the number that digits behind a number spell, where no number on the way is too great
unfoldable pub natural_from : ℕ → List ℕ → Option ℕ
natural_from n [] = Some n
natural_from n (b ∷ bs) = if is_digit b then (if nat_lt most (n * 10 + (b - 48)) then None else natural_from (n * 10 + (b - 48)) bs) else None

abbrev pub fitting : ℤ → Option ℤ
fitting z = if fits_i64 z then Some z else None

unfoldable pub positive : List ℕ → Option ℤ
positive ds = option_and_then (λ n. fitting (pos n)) (natural_from 0 ds)

unfoldable pub negative : List ℕ → Option ℤ
negative ds = if are_digits ds then option_and_then (λ n. fitting (minus n)) (natural_from 0 ds) else None

abbrev pub as_integer : Option ℤ → Option Data
as_integer None = None
as_integer (Some z) = Some (integer z)

-- ---- values without parts

-- the value that a word spells
unfoldable pub word_value : List ℕ → Option Data
word_value w =
    if same_bytes w (codes "TRUE") then Some (boolean true)
    else if same_bytes w (codes "FALSE") then Some (boolean false)
    else if are_digits w then as_integer (positive w)
    else if is_name w then Some (model w)
    else None

unfoldable pub word_atom : Parser Data
word_atom = do
  w ← word
  give (word_value w)

unfoldable pub negative_atom : Parser Data
negative_atom = do
  expect (codes "-")
  w ← word
  give (as_integer (negative w))

-- the byte that one behind a `\` stands for
abbrev pub unescaped : ℕ → Option ℕ
unescaped b =
    if nat_eq b 34 then Some 34 else if nat_eq b 92 then Some 92 else if nat_eq b 110 then Some 10
    else if nat_eq b 116 then Some 9 else None

-- the bytes of a string behind these, up to its closing quote; a `\` may stand before the next byte
unfoldable pub string_from : (escaping : Bool) → List ℕ → Parser (List ℕ)
string_from e s [] = None
string_from true s (b ∷ bs) = elim (unescaped b) as (λ o. Outcome (List ℕ)) [ None ↦ None | Some c ↦ string_from false (s ++ c ∷ []) bs ]
string_from false s (b ∷ bs) =
    if nat_eq b 34 then Some (s, bs) else if nat_eq b 92 then string_from true s bs
    else if is_printable b then string_from false (s ++ b ∷ []) bs else None

unfoldable pub string_atom : Parser Data
string_atom = do
  expect (codes "\"")
  s ← string_from false []
  pure (string s)

-- a value without parts
unfoldable pub atom : Parser Data
atom bs = if begins (codes "\"") bs then string_atom bs else if begins (codes "-") bs then negative_atom bs else word_atom bs

-- a field as a string
unfoldable pub field : Parser Data
field = do
  w ← word
  give (if is_name w then Some (string w) else None)

-- ---- lists of parts

-- an A with blanks around it
unfoldable pub spaced : {A : Type 0} → Parser A → Parser A
spaced p = do
  blanks
  a ← p
  blanks
  pure a

-- an A, this word and a B
unfoldable pub joined : {A B : Type 0} → List ℕ → Parser A → Parser B → Parser (A × B)
joined w p q = do
  a ← p
  expect w
  b ← q
  pure (a, b)

-- these, and at most n more, each behind this word
unfoldable pub followed : {A : Type 0} → List ℕ → Parser A → ℕ → List A → Parser (List A)
followed w p zero done bs = Some (done, bs)
followed w p (suc n) done bs =
    if begins w bs then ((do
      expect w
      a ← p
      followed w p n (done ++ a ∷ [])) bs)
    else Some (done, bs)

-- one A or more, parted by this word
unfoldable pub parted : {A : Type 0} → List ℕ → Parser A → Parser (List A)
parted w p = do
  a ← p
  (λ i. followed w p (length i) (a ∷ []) i)

-- no A before this word, or some that are parted by commas
unfoldable pub listed : {A : Type 0} → List ℕ → Parser A → Parser (List A)
listed close p bs = if is_before close bs then Some ([], behind is_blank bs) else parted (codes ",") (spaced p) bs

-- ---- pairs

-- the word between pairs
abbrev pub between : PairForm → List ℕ
between Fields = codes ","
between Mappings = codes "@@"

-- a pair in this form
unfoldable pub pair_in : PairForm → Parser Data → Parser (Data × Data)
pair_in Fields p bs = joined (codes "|->") (spaced field) (spaced p) bs
pair_in Mappings p bs = joined (codes ":>") (spaced p) (spaced p) bs

abbrev pub pairs_in : PairForm → Parser Data → Parser (List (Data × Data))
pairs_in f p = parted (between f) (pair_in f p)

-- ---- values with parts

unfoldable pub set_of : Parser Data → Parser Data
set_of p = do
  expect (codes "{")
  xs ← listed (codes "}") p
  expect (codes "}")
  pure (set (items (in_order xs)))

unfoldable pub tuple_of : Parser Data → Parser Data
tuple_of p = do
  expect (codes "<<")
  xs ← listed (codes ">>") p
  expect (codes ">>")
  pure (function (pairs (sequence_at 1 xs)))

-- the record of these fields, where none stands twice
abbrev pub record_from : List (Data × Data) → Option Data
record_from ps = if nat_eq (length (pairs_in_order ps)) (length ps) then Some (function (pairs (pairs_in_order ps))) else None

unfoldable pub record_of : Parser Data → Parser Data
record_of p = do
  expect (codes "[")
  ps ← pairs_in Fields p
  expect (codes "]")
  give (record_from ps)

unfoldable pub function_of : Parser Data → Parser Data
function_of p = do
  expect (codes "(")
  ps ← pairs_in Mappings p
  expect (codes ")")
  pure (function (pairs (pairs_in_order ps)))

-- a value whose parts p reads
unfoldable pub form : Parser Data → Parser Data
form p bs =
    if begins (codes "{") bs then set_of p bs
    else if begins (codes "<<") bs then tuple_of p bs
    else if begins (codes "[") bs then record_of p bs
    else if begins (codes "(") bs then function_of p bs
    else atom bs

-- a value that nests at most n deep
unfoldable pub value : ℕ → Parser Data
value zero bs = None
value (suc n) bs = form (value n) bs

-- ---- the whole

-- all of it, where nothing is left and no part is too large
abbrev pub if_whole : Outcome Data → Option Data
if_whole None = None
if_whole (Some p) = if nat_eq (length p.1) 0 && is_small p.0 then Some p.0 else None

unfoldable pub whole : List ℕ → Option Data
whole bs = if_whole (value most_depth bs)
