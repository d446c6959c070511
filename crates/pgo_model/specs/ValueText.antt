-- The canonical text of a value.
use Rattle.std.specs.Prelude.{ℕ, suc, ◌+◌, ◌-◌, ◌*◌, pos, Bool, true, false, ◌&&◌, ◌||◌, nat_eq, nat_le, if◌then◌else◌, List, [], ◌∷◌, ◌++◌, Option, Some, None, codes, length}
use Rattle.std.specs.Fmt.{signed_decimal}
use Rattle.pgo_base.specs.Data.{Data, boolean, integer, string, model, set, function, Items, no_items, item, Pairs, no_pairs, pair}

-- a byte of a string
abbrev pub escaped : ℕ → List ℕ
escaped b =
    if nat_eq b 34 then codes "\\\"" else if nat_eq b 92 then codes "\\\\" else if nat_eq b 10 then codes "\\n"
    else if nat_eq b 9 then codes "\\t" else b ∷ []

abbrev pub all_escaped : List ℕ → List ℕ
all_escaped [] = []
all_escaped (b ∷ bs) = escaped b ++ all_escaped bs

abbrev pub string_text : List ℕ → List ℕ
string_text s = codes "\"" ++ all_escaped s ++ codes "\""

abbrev pub truth_text : Bool → List ℕ
truth_text true = codes "TRUE"
truth_text false = codes "FALSE"

abbrev pub is_digit : ℕ → Bool
is_digit b = nat_le 48 b && nat_le b 57

abbrev pub all_digits : List ℕ → Bool
all_digits [] = true
all_digits (b ∷ bs) = is_digit b && all_digits bs

-- the number that digits behind a number spell
abbrev pub number_from : ℕ → List ℕ → ℕ
number_from n [] = n
number_from n (b ∷ bs) = number_from (n * 10 + (b - 48)) bs

-- the number that digits spell, leading zeros among them
abbrev pub number_of : List ℕ → ℕ
number_of = number_from 0

-- 32 to 126
abbrev pub is_printed : ℕ → Bool
is_printed b = nat_le 32 b && nat_le b 126

abbrev pub is_letter : ℕ → Bool
is_letter b = (nat_le 65 b && nat_le b 90) || (nat_le 97 b && nat_le b 122)

-- a letter, a digit or `_`
abbrev pub is_word_byte : ℕ → Bool
is_word_byte b = is_letter b || is_digit b || nat_eq b 95

abbrev pub all_word_bytes : List ℕ → Bool
all_word_bytes [] = true
all_word_bytes (b ∷ bs) = is_word_byte b && all_word_bytes bs

abbrev pub has_letter : List ℕ → Bool
has_letter [] = false
has_letter (b ∷ bs) = is_letter b || has_letter bs

abbrev pub same_bytes : List ℕ → List ℕ → Bool
same_bytes [] [] = true
same_bytes [] (y ∷ ys) = false
same_bytes (x ∷ xs) [] = false
same_bytes (x ∷ xs) (y ∷ ys) = nat_eq x y && same_bytes xs ys

-- the first bytes are the beginning of the others
abbrev pub is_beginning : List ℕ → List ℕ → Bool
is_beginning [] ys = true
is_beginning (x ∷ xs) [] = false
is_beginning (x ∷ xs) (y ∷ ys) = nat_eq x y && is_beginning xs ys

abbrev pub is_one_of : List ℕ → List (List ℕ) → Bool
is_one_of x [] = false
is_one_of x (w ∷ ws) = same_bytes x w || is_one_of x ws

-- what the first row with these bytes has
abbrev pub find_bytes : {A : Type 0} → List ℕ → List (List ℕ × A) → Option A
find_bytes x [] = None
find_bytes x (r ∷ rs) = if same_bytes x r.0 then Some r.1 else find_bytes x rs

-- the words that are no identifiers
abbrev pub reserved_words : List (List ℕ)
reserved_words =
    codes "TRUE" ∷ codes "FALSE" ∷ codes "BOOLEAN" ∷ codes "STRING" ∷ codes "Nat" ∷ codes "Int" ∷ codes "SUBSET" ∷ codes "UNION"
    ∷ codes "DOMAIN" ∷ codes "EXCEPT" ∷ codes "UNCHANGED" ∷ codes "CHOOSE" ∷ codes "IF" ∷ codes "THEN" ∷ codes "ELSE" ∷ codes "CASE"
    ∷ codes "OTHER" ∷ codes "LET" ∷ codes "IN" ∷ codes "define" ∷ codes "macro" ∷ codes "mapping" ∷ codes "read" ∷ codes "write"
    ∷ codes "archetype" ∷ codes "variable" ∷ codes "variables" ∷ codes "fair" ∷ codes "process" ∷ codes "instance" ∷ codes "ref"
    ∷ codes "via" ∷ codes "skip" ∷ codes "if" ∷ codes "else" ∷ codes "while" ∷ codes "either" ∷ codes "or" ∷ codes "await"
    ∷ codes "when" ∷ codes "with" ∷ codes "print" ∷ codes "assert" ∷ codes "goto" ∷ codes "yield" ∷ []

-- letters, digits and `_`, with a letter, and no reserved word
abbrev pub is_identifier : List ℕ → Bool
is_identifier x = all_word_bytes x && has_letter x && (if is_one_of x reserved_words then false else true)

-- how many bytes a name may have
abbrev pub most_name_bytes : ℕ
most_name_bytes = 512

-- an identifier of at most 512 bytes
abbrev pub is_read_name : List ℕ → Bool
is_read_name x = is_identifier x && nat_le (length x) most_name_bytes

-- a key that can be a record's field
abbrev pub is_field : Data → Bool
is_field (string s) = is_read_name s
is_field d = false

abbrev pub all_fields : Pairs → Bool
all_fields no_pairs = true
all_fields (pair k v ps) = is_field k && all_fields ps

abbrev pub is_number : ℕ → Data → Bool
is_number n (integer (pos m)) = nat_eq n m
is_number n d = false

-- the keys are n, n + 1, ..
abbrev pub is_sequence_from : ℕ → Pairs → Bool
is_sequence_from n no_pairs = true
is_sequence_from n (pair k v ps) = is_number n k && is_sequence_from (suc n) ps

abbrev pub field_text : Data → List ℕ
field_text (string s) = s
field_text d = []

abbrev mutual
  pub value_text : Data → List ℕ
  value_text (boolean b) = truth_text b
  value_text (integer z) = signed_decimal z
  value_text (string s) = string_text s
  value_text (model x) = x
  value_text (set xs) = codes "{" ++ items_text xs ++ codes "}"
  value_text (function ps) =
      if is_sequence_from 1 ps then codes "<<" ++ sequence_text ps ++ codes ">>"
      else if all_fields ps then codes "[" ++ fields_text ps ++ codes "]"
      else codes "(" ++ pairs_text ps ++ codes ")"

  -- with commas between them
  pub items_text : Items → List ℕ
  items_text no_items = []
  items_text (item x no_items) = value_text x
  items_text (item x (item y ys)) = value_text x ++ codes ", " ++ items_text (item y ys)

  pub sequence_text : Pairs → List ℕ
  sequence_text no_pairs = []
  sequence_text (pair k v no_pairs) = value_text v
  sequence_text (pair k v (pair l w ps)) = value_text v ++ codes ", " ++ sequence_text (pair l w ps)

  pub fields_text : Pairs → List ℕ
  fields_text no_pairs = []
  fields_text (pair k v no_pairs) = field_text k ++ codes " |-> " ++ value_text v
  fields_text (pair k v (pair l w ps)) = field_text k ++ codes " |-> " ++ value_text v ++ codes ", " ++ fields_text (pair l w ps)

  pub pairs_text : Pairs → List ℕ
  pairs_text no_pairs = []
  pairs_text (pair k v no_pairs) = value_text k ++ codes " :> " ++ value_text v
  pairs_text (pair k v (pair l w ps)) = value_text k ++ codes " :> " ++ value_text v ++ codes " @@ " ++ pairs_text (pair l w ps)
