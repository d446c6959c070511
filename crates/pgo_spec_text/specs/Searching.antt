-- Places in a text as functions on lists, in the shape of the code.
use Rattle.std.specs.Prelude.{ℕ, ◌-◌, Bool, true, not, ◌&&◌, ◌||◌, nat_eq, nat_le, if◌then◌else◌, List, [], ◌∷◌, length, take, drop, Option, Some, None, codes}
use Rattle.std.specs.List.{prefix_len}
use Rattle.pgo_model.specs.ValueText.{is_word_byte}
use Rattle.pgo_lexer.specs.Symbols.{is_beginning}
use Rattle.pgo_lexer.specs.Lexemes.{opens}
use Rattle.pgo_lexer.specs.Pieces.{begins, behind_comment}
use Rattle.pgo_spec_text.specs.SpecText.{is_space, is_dash, mpcal}

-- the bytes from the first place on where the test holds; the state tells of what stands before
abbrev pub first_by : (test : Bool → List ℕ → Bool) (next : Bool → ℕ → Bool) → Bool → List ℕ → Option (List ℕ)
first_by test next state [] = None
first_by test next state (b ∷ bs) = if test state (b ∷ bs) then Some (b ∷ bs) else first_by test next (next state b) bs

-- the bytes begin with the word, and it ends there
unfoldable pub word_at : (word bytes : List ℕ) → Bool
word_at word bytes = is_beginning word bytes && not (begins is_word_byte (drop (length word) bytes))

-- ---- the line of MODULE

abbrev pub skip_spaces : List ℕ → List ℕ
skip_spaces bs = drop (prefix_len is_space bs) bs

unfoldable pub opens_module : List ℕ → Bool
opens_module bs = nat_le 4 (prefix_len is_dash bs) && word_at (codes "MODULE") (skip_spaces (drop (prefix_len is_dash bs) bs))

-- whether only blanks stand before on the line, behind one more byte
abbrev pub is_fresh : Bool → ℕ → Bool
is_fresh fresh b = nat_eq b 10 || (fresh && is_space b)

abbrev pub is_line_at : Bool → List ℕ → Bool
is_line_at fresh bs = fresh && opens_module bs

abbrev pub module_from : Bool → List ℕ → Option (List ℕ)
module_from = first_by is_line_at is_fresh

-- ---- the comment with the algorithm

abbrev pub stays : Bool → ℕ → Bool
stays state b = state

abbrev pub is_mpcal_at : Bool → List ℕ → Bool
is_mpcal_at state bs = word_at mpcal bs

abbrev pub mpcal_from : List ℕ → Option (List ℕ)
mpcal_from = first_by is_mpcal_at stays true

-- what stands behind the comment that the bytes begin with
unfoldable pub behind : List ℕ → Option (List ℕ)
behind bs = if opens bs then behind_comment 1 (drop 2 bs) else None

-- a comment's bytes behind its `--mpcal` and before its `*)`
abbrev pub body : List ℕ → List ℕ
body bs = take (length (drop 7 bs) - 2) (drop 7 bs)

abbrev pub body_by : List ℕ → Option (List ℕ) → Option (List ℕ × List ℕ)
body_by rest None = None
body_by rest (Some word) = Some (body word, rest)

abbrev pub inside_by : List ℕ → Option (List ℕ) → Option (List ℕ × List ℕ)
inside_by bs None = None
inside_by bs (Some rest) = body_by rest (mpcal_from (take (length bs - length rest) bs))

-- the body of the algorithm's comment that the bytes begin with, and what stands behind the comment
unfoldable pub inside : List ℕ → Option (List ℕ × List ℕ)
inside bs = inside_by bs (behind bs)

-- ---- the closing row

abbrev pub is_row_at : Bool → List ℕ → Bool
is_row_at state bs = is_beginning (codes "====") bs

abbrev pub row_from : List ℕ → Option (List ℕ)
row_from = first_by is_row_at stays true
