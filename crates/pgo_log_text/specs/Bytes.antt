-- The parts of a line as functions on bytes, in the shape of the code.
use Rattle.std.specs.Prelude.{ℕ, zero, suc, ◌+◌, ◌-◌, Bool, true, false, not, ◌&&◌, ◌||◌, nat_eq, nat_lt, if◌then◌else◌, List, [], ◌∷◌, take, drop, Option, Some, None}
use Rattle.pgo_base.specs.Data.{Data}
use Rattle.pgo_base.specs.Lookup.{Name}
use Rattle.pgo_model.specs.ValueText.{is_digit, is_word_byte, same_bytes, value_text}
use Rattle.pgo_model.specs.BundleParts.{count_limit, is_read_name}
pub use Rattle.pgo_value_text.specs.Parsers.{give}
pub use Rattle.pgo_value_text.specs.Reading.{expect, begins, front, behind, most}
unfoldable pub use Rattle.pgo_value_text.specs.Reading.{natural_from}
use Rattle.pgo_value_text.specs.Reading.{whole}
use Rattle.pgo_log_text.specs.declared.value.Place.{Place}
use Rattle.pgo_log_text.specs.declared.value.Place.TheVariants.{Outside, Quoted, Escaped}
use Rattle.pgo_log_text.specs.Parsers.{Outcome, Parser, ◌>>=◌}

-- what stands behind a value: nothing, a newline or a `]`
abbrev pub is_behind_value : List ℕ → Bool
is_behind_value [] = true
is_behind_value (b ∷ bs) = nat_eq b 10 || nat_eq b 93

-- the next n bytes
abbrev pub taken : ℕ → Parser (List ℕ)
taken zero bs = Some ([], bs)
taken (suc n) [] = None
taken (suc n) (b ∷ bs) = elim (taken n bs) as (λ o. Outcome (List ℕ)) [ None ↦ None | Some p ↦ Some (b ∷ p.0, p.1) ]

-- ---- numbers

-- one byte, or some of which the first is no zero
abbrev pub is_shortest : List ℕ → Bool
is_shortest [] = false
is_shortest (b ∷ []) = true
is_shortest (b ∷ (c ∷ bs)) = not (nat_eq b 48)

unfoldable pub natural_of : List ℕ → Option ℕ
natural_of bs = if is_shortest bs then natural_from 0 bs else None

-- a number of 64 bits
unfoldable pub natural : Parser ℕ
natural bs = give (natural_of (front is_digit bs)) (behind is_digit bs)

-- a number below 2^32
unfoldable pub number : Parser ℕ
number = do
  n ← natural
  (λ i. if nat_lt n count_limit then Some (n, i) else None)

-- ---- names

unfoldable pub name : Parser Name
name bs = if is_read_name (front is_word_byte bs) then Some (front is_word_byte bs, behind is_word_byte bs) else None

-- ---- values

-- where a value's text ends: before a newline, or before a `]` outside of strings that closes none of its brackets
abbrev pub is_end : Place → (open_brackets : ℕ) → ℕ → Bool
is_end Outside n b = nat_eq b 10 || (nat_eq b 93 && nat_eq n 0)
is_end Quoted n b = nat_eq b 10
is_end Escaped n b = nat_eq b 10

-- where the next byte stands
abbrev pub place_behind : Place → ℕ → Place
place_behind Outside b = if nat_eq b 34 then Quoted else Outside
place_behind Quoted b = if nat_eq b 34 then Outside else if nat_eq b 92 then Escaped else Quoted
place_behind Escaped b = Quoted

-- how many brackets are open there
abbrev pub brackets_behind : Place → ℕ → ℕ → ℕ
brackets_behind Outside n b = if nat_eq b 91 then n + 1 else if nat_eq b 93 then n - 1 else n
brackets_behind Quoted n b = n
brackets_behind Escaped n b = n

-- how many bytes stand before the end of a value, of which some were read
unfoldable pub value_length : Place → ℕ → List ℕ → ℕ
value_length p n [] = 0
value_length p n (b ∷ bs) = if is_end p n b then 0 else 1 + value_length (place_behind p b) (brackets_behind p n b) bs

abbrev pub value_front : List ℕ → List ℕ
value_front bs = take (value_length Outside 0 bs) bs

abbrev pub value_behind : List ℕ → List ℕ
value_behind bs = drop (value_length Outside 0 bs) bs

abbrev pub if_canonical : List ℕ → Option Data → Option Data
if_canonical bs None = None
if_canonical bs (Some d) = if same_bytes (value_text d) bs then Some d else None

-- the value of which this is the canonical text
unfoldable pub canonical : List ℕ → Option Data
canonical bs = if_canonical bs (whole bs)

-- a value in its canonical text
unfoldable pub value : Parser Data
value bs = give (canonical (value_front bs)) (value_behind bs)
