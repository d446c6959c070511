-- The fixed words and signs of canonical texts, each before what follows it.
use Rattle.std.proofs.Common.{◌≡◌, ◌<◌, ℕ, Bool, true, false, ◌&&◌, List, [], ◌∷◌, ◌++◌, length, Some, None, refl, ap, arith, nat_eq}
use Rattle.pgo_base.specs.declared.expr.Infix.{Infix}
use Rattle.pgo_base.specs.declared.expr.Infix.TheVariants as op
use Rattle.pgo_base.specs.declared.expr.Prefix.{Prefix}
use Rattle.pgo_base.specs.declared.expr.Prefix.TheVariants as pre
use Rattle.pgo_base.specs.declared.expr.Quantifier.{Quantifier}
use Rattle.pgo_base.specs.declared.expr.Quantifier.TheVariants as quantifier
use Rattle.pgo_base.specs.declared.expr.Word.{Word}
use Rattle.pgo_base.specs.declared.expr.Word.TheVariants as words
use Rattle.pgo_model.specs.ValueText.{is_letter, is_word_byte, truth_text}
use Rattle.pgo_model.specs.ExprText.{prefix_text, infix_text, quantifier_text, word_text}
use Rattle.pgo_lexer.specs.declared.token.Token.{Token}
use Rattle.pgo_lexer.specs.declared.token.Token.TheVariants as t
use Rattle.pgo_lexer.specs.declared.symbol.Symbol.{Symbol}
use Rattle.pgo_lexer.specs.declared.symbol.Symbol.TheVariants as s
use Rattle.pgo_lexer.specs.declared.symbol.Bracket.{Bracket}
use Rattle.pgo_lexer.specs.declared.symbol.Bracket.TheVariants as b
use Rattle.pgo_lexer.specs.Symbols.{find, signs, begins_no_row}
use Rattle.pgo_lexer.specs.Lexemes.{Stops, opens, opens_line, opens_word}
use Rattle.pgo_lexer.specs.Lexemes as l
use Rattle.pgo_expr_read.specs.declared.table.Operator.TheVariants as operator
use Rattle.pgo_expr_read.specs.Spells.{prefix_token, operator_token}
use Rattle.pgo_expr_write.proofs.Lexed as w
use Rattle.pgo_expr_write.proofs.Lexed.{IsWritten, piece, Lexed, blank, single, opening, closing}

-- what may stand behind a name, a number, a word or `@`
abbrev pub Ends : List ℕ → Type 0
Ends [] = Unit {0}
Ends (x ∷ xs) = (is_word_byte x ≡ false) × (nat_eq x 64 ≡ false)

-- how an expression begins: with none of the bytes that go on a `(`, a `-` or a `[`
abbrev pub Begins : List ℕ → Type 0
Begins [] = ⊥
Begins (x ∷ xs) = (nat_eq x 42 ≡ false) × (nat_eq x 62 ≡ false) × (nat_eq x 93 ≡ false)

pub stops : (rest : List ℕ) → Ends rest → Stops is_word_byte rest
stops [] e = tt
stops (x ∷ xs) e = e.0

-- ---- signs

no_open : (x : ℕ) (rest : List ℕ) → nat_eq x 40 ≡ false → opens (x ∷ rest) ≡ false
no_open x [] h = refl
no_open x (y ∷ rest) h = ap (λ z. z && nat_eq y 42) h

no_line : (x : ℕ) (rest : List ℕ) → nat_eq x 92 ≡ false → opens_line (x ∷ rest) ≡ false
no_line x [] h = refl
no_line x (y ∷ rest) h = ap (λ z. z && nat_eq y 42) h

no_word : (x : ℕ) (rest : List ℕ) → nat_eq x 92 ≡ false → opens_word (x ∷ rest) ≡ false
no_word x [] h = refl
no_word x (y ∷ rest) h = ap (λ z. z && is_letter y) h

-- before a byte with which no longer sign begins
sign_before : (x : ℕ) (front : List ℕ) (y : ℕ) (rest : List ℕ) (symbol : Symbol) → find (x ∷ front) signs ≡ Some symbol → begins_no_row (x ∷ (front ++ y ∷ [])) signs ≡ true
    → nat_eq x 40 ≡ false → nat_eq x 92 ≡ false → IsWritten (x ∷ front) (y ∷ rest) (t.Symbol symbol)
sign_before x front y rest symbol found none round slash = w.sign (x ∷ front) rest y symbol found none (no_open x (front ++ y ∷ rest) round) (no_line x (front ++ y ∷ rest) slash) (no_word x (front ++ y ∷ rest) slash)

no_more : (front : List ℕ) (more behind : List ℕ) → [] ≡ more ++ behind → 0 < length more → find (front ++ more) signs ≡ None
no_more front [] behind split some = absurd (omega arith)
no_more front (y ∷ more) behind split some = cc

-- at the end of a text
sign_last : (x : ℕ) (front : List ℕ) (symbol : Symbol) → find (x ∷ front) signs ≡ Some symbol → nat_eq x 40 ≡ false → nat_eq x 92 ≡ false → IsWritten (x ∷ front) [] (t.Symbol symbol)
sign_last x front symbol found round slash = piece (l.sign (record {
  found = found;
  longest = no_more (x ∷ front);
  no_comment = no_open x (front ++ []) round;
  no_line = no_line x (front ++ []) slash;
  no_word = no_word x (front ++ []) slash;
}))

-- before anything, where no longer sign begins so
sign_any : (x : ℕ) (front rest : List ℕ) (symbol : Symbol) → find (x ∷ front) signs ≡ Some symbol → ((y : ℕ) → begins_no_row (x ∷ (front ++ y ∷ [])) signs ≡ true)
    → nat_eq x 40 ≡ false → nat_eq x 92 ≡ false → IsWritten (x ∷ front) rest (t.Symbol symbol)
sign_any x front [] symbol found none round slash = sign_last x front symbol found round slash
sign_any x front (y ∷ rest) symbol found none round slash = sign_before x front y rest symbol found (none y) round slash

-- ---- brackets

pub round_open : {st : List Bracket} {p : Bool} (rest : List ℕ) {us : List Token} → Begins rest → Lexed (b.Round ∷ st) false rest us → Lexed st p (40 ∷ rest) (t.Symbol (s.Open b.Round) ∷ us)
round_open [] h d = absurd h
round_open (y ∷ rest) h d = opening 40 [] (w.sign (40 ∷ []) rest y (s.Open b.Round) refl refl h.0 refl refl) refl refl d

square_row : (y : ℕ) → nat_eq y 93 ≡ false → begins_no_row (91 ∷ (y ∷ [])) signs ≡ true
square_row y h = rw h refl

pub square_open : {st : List Bracket} {p : Bool} (rest : List ℕ) {us : List Token} → Begins rest → Lexed (b.Square ∷ st) false rest us → Lexed st p (91 ∷ rest) (t.Symbol (s.Open b.Square) ∷ us)
square_open [] h d = absurd h
square_open (y ∷ rest) h d = opening 91 [] (sign_before 91 [] y rest (s.Open b.Square) refl (square_row y h.2) refl refl) refl refl d

pub angle_open : {st : List Bracket} {p : Bool} (rest : List ℕ) {us : List Token} → Lexed (b.Angle ∷ st) false rest us → Lexed st p (60 ∷ 60 ∷ rest) (t.Symbol (s.Open b.Angle) ∷ us)
angle_open rest d = opening 60 (60 ∷ []) (sign_any 60 (60 ∷ []) rest (s.Open b.Angle) refl (λ y. refl) refl refl) refl refl d

pub curly_open : {st : List Bracket} {p : Bool} (rest : List ℕ) {us : List Token} → Lexed (b.Curly ∷ st) false rest us → Lexed st p (123 ∷ rest) (t.Symbol (s.Open b.Curly) ∷ us)
curly_open rest d = opening 123 ([]) (sign_any 123 ([]) rest (s.Open b.Curly) refl (λ y. refl) refl refl) refl refl d

pub round_close : {st : List Bracket} {p : Bool} (rest : List ℕ) {us : List Token} → Lexed st true rest us → Lexed (b.Round ∷ st) p (41 ∷ rest) (t.Symbol (s.Close b.Round) ∷ us)
round_close rest d = closing 41 ([]) (sign_any 41 ([]) rest (s.Close b.Round) refl (λ y. refl) refl refl) refl refl d

pub square_close : {st : List Bracket} {p : Bool} (rest : List ℕ) {us : List Token} → Lexed st true rest us → Lexed (b.Square ∷ st) p (93 ∷ rest) (t.Symbol (s.Close b.Square) ∷ us)
square_close rest d = closing 93 ([]) (sign_any 93 ([]) rest (s.Close b.Square) refl (λ y. refl) refl refl) refl refl d

pub angle_close : {st : List Bracket} {p : Bool} (rest : List ℕ) {us : List Token} → Lexed st true rest us → Lexed (b.Angle ∷ st) p (62 ∷ 62 ∷ rest) (t.Symbol (s.Close b.Angle) ∷ us)
angle_close rest d = closing 62 (62 ∷ []) (sign_any 62 (62 ∷ []) rest (s.Close b.Angle) refl (λ y. refl) refl refl) refl refl d

pub curly_close : {st : List Bracket} {p : Bool} (rest : List ℕ) {us : List Token} → Lexed st true rest us → Lexed (b.Curly ∷ st) p (125 ∷ rest) (t.Symbol (s.Close b.Curly) ∷ us)
curly_close rest d = closing 125 ([]) (sign_any 125 ([]) rest (s.Close b.Curly) refl (λ y. refl) refl refl) refl refl d

-- ---- signs and words between blanks

pub colon : {st : List Bracket} {p : Bool} {rest : List ℕ} {us : List Token} → Lexed st false rest us → Lexed st p (32 ∷ 58 ∷ 32 ∷ rest) (t.Symbol s.Colon ∷ us)
colon d = blank (single 58 ([]) (w.sign (58 ∷ []) _ 32 _ refl refl refl refl refl) refl refl (blank d))

pub arrow : {st : List Bracket} {p : Bool} {rest : List ℕ} {us : List Token} → Lexed st false rest us → Lexed st p (32 ∷ 45 ∷ 62 ∷ 32 ∷ rest) (t.Symbol s.Arrow ∷ us)
arrow d = blank (single 45 (62 ∷ []) (w.sign (45 ∷ 62 ∷ []) _ 32 _ refl refl refl refl refl) refl refl (blank d))

pub box : {st : List Bracket} {p : Bool} {rest : List ℕ} {us : List Token} → Lexed st false rest us → Lexed st p (32 ∷ 91 ∷ 93 ∷ 32 ∷ rest) (t.Symbol s.Box ∷ us)
box d = blank (single 91 (93 ∷ []) (w.sign (91 ∷ 93 ∷ []) _ 32 _ refl refl refl refl refl) refl refl (blank d))

pub defines : {st : List Bracket} {p : Bool} {rest : List ℕ} {us : List Token} → Lexed st false rest us → Lexed st p (32 ∷ 61 ∷ 61 ∷ 32 ∷ rest) (t.Symbol s.Defines ∷ us)
defines d = blank (w.defines d)

pub maps_to : {st : List Bracket} {p : Bool} {rest : List ℕ} {us : List Token} → Lexed st false rest us → Lexed st p (32 ∷ 124 ∷ 45 ∷ 62 ∷ 32 ∷ rest) (t.Symbol s.MapsTo ∷ us)
maps_to d = blank (single 124 (45 ∷ 62 ∷ []) (w.sign (124 ∷ 45 ∷ 62 ∷ []) _ 32 _ refl refl refl refl refl) refl refl (blank d))

pub equal : {st : List Bracket} {p : Bool} {rest : List ℕ} {us : List Token} → Lexed st false rest us → Lexed st p (32 ∷ 61 ∷ 32 ∷ rest) (t.Symbol (s.Infix op.Equal) ∷ us)
equal d = blank (single 61 ([]) (w.sign (61 ∷ []) _ 32 _ refl refl refl refl refl) refl refl (blank d))

pub member : {st : List Bracket} {p : Bool} {rest : List ℕ} {us : List Token} → Lexed st false rest us → Lexed st p (32 ∷ 92 ∷ 105 ∷ 110 ∷ 32 ∷ rest) (t.Symbol (s.Infix op.In) ∷ us)
member d = blank (single 92 (105 ∷ 110 ∷ []) (piece (l.slashed (record { all = refl; longest = refl }) refl)) refl refl (blank d))

pub then : {st : List Bracket} {p : Bool} {rest : List ℕ} {us : List Token} → Lexed st false rest us → Lexed st p (32 ∷ 84 ∷ 72 ∷ 69 ∷ 78 ∷ 32 ∷ rest) (t.Symbol s.Then ∷ us)
then d = blank (single 84 (72 ∷ 69 ∷ 78 ∷ []) (piece (l.word (record { all = refl; longest = refl }) refl)) refl refl (blank d))

pub otherwise : {st : List Bracket} {p : Bool} {rest : List ℕ} {us : List Token} → Lexed st false rest us → Lexed st p (32 ∷ 69 ∷ 76 ∷ 83 ∷ 69 ∷ 32 ∷ rest) (t.Symbol s.Else ∷ us)
otherwise d = blank (single 69 (76 ∷ 83 ∷ 69 ∷ []) (piece (l.word (record { all = refl; longest = refl }) refl)) refl refl (blank d))

pub let_end : {st : List Bracket} {p : Bool} {rest : List ℕ} {us : List Token} → Lexed st false rest us → Lexed st p (32 ∷ 73 ∷ 78 ∷ 32 ∷ rest) (t.Symbol s.LetIn ∷ us)
let_end d = blank (single 73 (78 ∷ []) (piece (l.word (record { all = refl; longest = refl }) refl)) refl refl (blank d))

pub except : {st : List Bracket} {p : Bool} {rest : List ℕ} {us : List Token} → Lexed st false rest us → Lexed st p (32 ∷ 69 ∷ 88 ∷ 67 ∷ 69 ∷ 80 ∷ 84 ∷ 32 ∷ rest) (t.Symbol s.Except ∷ us)
except d = blank (single 69 (88 ∷ 67 ∷ 69 ∷ 80 ∷ 84 ∷ []) (piece (l.word (record { all = refl; longest = refl }) refl)) refl refl (blank d))

pub product : {st : List Bracket} {p : Bool} {rest : List ℕ} {us : List Token} → Lexed st false rest us → Lexed st p (32 ∷ 92 ∷ 88 ∷ 32 ∷ rest) (operator_token operator.Product ∷ us)
product d = blank (single 92 (88 ∷ []) (piece (l.slashed (record { all = refl; longest = refl }) refl)) refl refl (blank d))

pub when : {st : List Bracket} {p : Bool} {rest : List ℕ} {us : List Token} → Lexed st false rest us → Lexed st p (73 ∷ 70 ∷ 32 ∷ rest) (t.Symbol s.If ∷ us)
when d = single 73 (70 ∷ []) (piece (l.word (record { all = refl; longest = refl }) refl)) refl refl (blank d)

pub case : {st : List Bracket} {p : Bool} {rest : List ℕ} {us : List Token} → Lexed st false rest us → Lexed st p (67 ∷ 65 ∷ 83 ∷ 69 ∷ 32 ∷ rest) (t.Symbol s.Case ∷ us)
case d = single 67 (65 ∷ 83 ∷ 69 ∷ []) (piece (l.word (record { all = refl; longest = refl }) refl)) refl refl (blank d)

pub let_begin : {st : List Bracket} {p : Bool} {rest : List ℕ} {us : List Token} → Lexed st false rest us → Lexed st p (76 ∷ 69 ∷ 84 ∷ 32 ∷ rest) (t.Symbol s.Let ∷ us)
let_begin d = single 76 (69 ∷ 84 ∷ []) (piece (l.word (record { all = refl; longest = refl }) refl)) refl refl (blank d)

pub choose : {st : List Bracket} {p : Bool} {rest : List ℕ} {us : List Token} → Lexed st false rest us → Lexed st p (67 ∷ 72 ∷ 79 ∷ 79 ∷ 83 ∷ 69 ∷ 32 ∷ rest) (t.Symbol s.Choose ∷ us)
choose d = single 67 (72 ∷ 79 ∷ 79 ∷ 83 ∷ 69 ∷ []) (piece (l.word (record { all = refl; longest = refl }) refl)) refl refl (blank d)

pub other_arrow : {st : List Bracket} {p : Bool} {rest : List ℕ} {us : List Token} → Lexed st false rest us → Lexed st p (79 ∷ 84 ∷ 72 ∷ 69 ∷ 82 ∷ 32 ∷ 45 ∷ 62 ∷ 32 ∷ rest) (t.Symbol s.Other ∷ (t.Symbol s.Arrow ∷ us))
other_arrow d = single 79 (84 ∷ 72 ∷ 69 ∷ 82 ∷ []) (piece (l.word (record { all = refl; longest = refl }) refl)) refl refl (arrow d)

pub unchanged : {st : List Bracket} {p : Bool} {rest : List ℕ} {us : List Token} → Lexed st false rest us → Lexed st p (85 ∷ 78 ∷ 67 ∷ 72 ∷ 65 ∷ 78 ∷ 71 ∷ 69 ∷ 68 ∷ 32 ∷ rest) (t.Symbol s.Unchanged ∷ us)
unchanged d = single 85 (78 ∷ 67 ∷ 72 ∷ 65 ∷ 78 ∷ 71 ∷ 69 ∷ 68 ∷ []) (piece (l.word (record { all = refl; longest = refl }) refl)) refl refl (blank d)

pub comma : {st : List Bracket} {p : Bool} {rest : List ℕ} {us : List Token} → Lexed st false rest us → Lexed st p (44 ∷ 32 ∷ rest) (t.Symbol s.Comma ∷ us)
comma d = single 44 ([]) (w.sign (44 ∷ []) _ 32 _ refl refl refl refl refl) refl refl (blank d)

-- ---- operators

pub infix_said : (o : Infix) {st : List Bracket} {rest : List ℕ} {us : List Token} → Lexed st false rest us → Lexed st true (infix_text o ++ rest) (operator_token (operator.Infix o) ∷ us)
infix_said op.Implies d = blank (single 61 (62 ∷ []) (w.sign (61 ∷ 62 ∷ []) _ 32 _ refl refl refl refl refl) refl refl (blank d))
infix_said op.Iff d = blank (single 60 (61 ∷ 62 ∷ []) (w.sign (60 ∷ 61 ∷ 62 ∷ []) _ 32 _ refl refl refl refl refl) refl refl (blank d))
infix_said op.And d = blank (single 47 (92 ∷ []) (w.sign (47 ∷ 92 ∷ []) _ 32 _ refl refl refl refl refl) refl refl (blank d))
infix_said op.Or d = blank (single 92 (47 ∷ []) (w.sign (92 ∷ 47 ∷ []) _ 32 _ refl refl refl refl refl) refl refl (blank d))
infix_said op.Equal d = blank (single 61 ([]) (w.sign (61 ∷ []) _ 32 _ refl refl refl refl refl) refl refl (blank d))
infix_said op.Differs d = blank (single 35 ([]) (w.sign (35 ∷ []) _ 32 _ refl refl refl refl refl) refl refl (blank d))
infix_said op.Less d = blank (single 60 ([]) (w.sign (60 ∷ []) _ 32 _ refl refl refl refl refl) refl refl (blank d))
infix_said op.Greater d = blank (single 62 ([]) (w.sign (62 ∷ []) _ 32 _ refl refl refl refl refl) refl refl (blank d))
infix_said op.AtMost d = blank (single 61 (60 ∷ []) (w.sign (61 ∷ 60 ∷ []) _ 32 _ refl refl refl refl refl) refl refl (blank d))
infix_said op.AtLeast d = blank (single 62 (61 ∷ []) (w.sign (62 ∷ 61 ∷ []) _ 32 _ refl refl refl refl refl) refl refl (blank d))
infix_said op.In d = blank (single 92 (105 ∷ 110 ∷ []) (piece (l.slashed (record { all = refl; longest = refl }) refl)) refl refl (blank d))
infix_said op.NotIn d = blank (single 92 (110 ∷ 111 ∷ 116 ∷ 105 ∷ 110 ∷ []) (piece (l.slashed (record { all = refl; longest = refl }) refl)) refl refl (blank d))
infix_said op.SubsetEq d = blank (single 92 (115 ∷ 117 ∷ 98 ∷ 115 ∷ 101 ∷ 116 ∷ 101 ∷ 113 ∷ []) (piece (l.slashed (record { all = refl; longest = refl }) refl)) refl refl (blank d))
infix_said op.Merge d = blank (single 64 (64 ∷ []) (w.sign (64 ∷ 64 ∷ []) _ 32 _ refl refl refl refl refl) refl refl (blank d))
infix_said op.Single d = blank (single 58 (62 ∷ []) (w.sign (58 ∷ 62 ∷ []) _ 32 _ refl refl refl refl refl) refl refl (blank d))
infix_said op.Union d = blank (single 92 (99 ∷ 117 ∷ 112 ∷ []) (piece (l.slashed (record { all = refl; longest = refl }) refl)) refl refl (blank d))
infix_said op.Intersect d = blank (single 92 (99 ∷ 97 ∷ 112 ∷ []) (piece (l.slashed (record { all = refl; longest = refl }) refl)) refl refl (blank d))
infix_said op.Without d = blank (single 92 ([]) (w.sign (92 ∷ []) _ 32 _ refl refl refl refl refl) refl refl (blank d))
infix_said op.Range d = blank (single 46 (46 ∷ []) (w.sign (46 ∷ 46 ∷ []) _ 32 _ refl refl refl refl refl) refl refl (blank d))
infix_said op.Add d = blank (single 43 ([]) (w.sign (43 ∷ []) _ 32 _ refl refl refl refl refl) refl refl (blank d))
infix_said op.Subtract d = blank (single 45 ([]) (w.sign (45 ∷ []) _ 32 _ refl refl refl refl refl) refl refl (blank d))
infix_said op.Modulo d = blank (single 37 ([]) (w.sign (37 ∷ []) _ 32 _ refl refl refl refl refl) refl refl (blank d))
infix_said op.Multiply d = blank (single 42 ([]) (w.sign (42 ∷ []) _ 32 _ refl refl refl refl refl) refl refl (blank d))
infix_said op.Concat d = blank (single 92 (111 ∷ []) (piece (l.slashed (record { all = refl; longest = refl }) refl)) refl refl (blank d))
infix_said op.Divide d = blank (single 92 (100 ∷ 105 ∷ 118 ∷ []) (piece (l.slashed (record { all = refl; longest = refl }) refl)) refl refl (blank d))

pub quantifier_said : (q : Quantifier) {st : List Bracket} {p : Bool} {rest : List ℕ} {us : List Token} → Lexed st false rest us → Lexed st p (quantifier_text q ++ rest) (t.Symbol (s.Quantifier q) ∷ us)
quantifier_said quantifier.Exists d = single 92 (69 ∷ []) (piece (l.slashed (record { all = refl; longest = refl }) refl)) refl refl (blank d)
quantifier_said quantifier.Forall d = single 92 (65 ∷ []) (piece (l.slashed (record { all = refl; longest = refl }) refl)) refl refl (blank d)

minus_row : (y : ℕ) → nat_eq y 62 ≡ false → begins_no_row (45 ∷ (y ∷ [])) signs ≡ true
minus_row y h = rw h refl

minus_said : {st : List Bracket} {p : Bool} (rest : List ℕ) {us : List Token} → Begins rest → Lexed st false rest us → Lexed st p (45 ∷ rest) (t.Symbol (s.Infix op.Subtract) ∷ us)
minus_said [] h d = absurd h
minus_said (y ∷ rest) h d = single 45 [] (sign_before 45 [] y rest (s.Infix op.Subtract) refl (minus_row y h.1) refl refl) refl refl d

pub prefix_said : (o : Prefix) {st : List Bracket} {p : Bool} (rest : List ℕ) {us : List Token} → Begins rest → Lexed st false rest us → Lexed st p (prefix_text o ++ rest) (prefix_token o ∷ us)
prefix_said pre.Not rest h d = single 126 [] (sign_any 126 [] rest (s.Prefix pre.Not) refl (λ y. refl) refl refl) refl refl d
prefix_said pre.Minus rest h d = minus_said rest h d
prefix_said pre.Powerset rest h d = single 83 (85 ∷ 66 ∷ 83 ∷ 69 ∷ 84 ∷ []) (piece (l.word (record { all = refl; longest = refl }) refl)) refl refl (blank d)
prefix_said pre.Flatten rest h d = single 85 (78 ∷ 73 ∷ 79 ∷ 78 ∷ []) (piece (l.word (record { all = refl; longest = refl }) refl)) refl refl (blank d)
prefix_said pre.Domain rest h d = single 68 (79 ∷ 77 ∷ 65 ∷ 73 ∷ 78 ∷ []) (piece (l.word (record { all = refl; longest = refl }) refl)) refl refl (blank d)

-- ---- before what ends an operand

at_row : (y : ℕ) → nat_eq y 64 ≡ false → begins_no_row (64 ∷ (y ∷ [])) signs ≡ true
at_row y h = rw h refl

pub at_said : {st : List Bracket} {p : Bool} (rest : List ℕ) {us : List Token} → Ends rest → Lexed st true rest us → Lexed st p (64 ∷ rest) (t.Symbol s.At ∷ us)
at_said [] e d = single 64 [] (sign_last 64 [] s.At refl refl refl) refl refl d
at_said (y ∷ rest) e d = single 64 [] (sign_before 64 [] y rest s.At refl (at_row y e.1) refl refl) refl refl d

pub prime_said : {st : List Bracket} {p : Bool} (rest : List ℕ) {us : List Token} → Lexed st true rest us → Lexed st p (39 ∷ rest) (t.Symbol s.Prime ∷ us)
prime_said rest d = single 39 [] (sign_any 39 [] rest s.Prime refl (λ y. refl) refl refl) refl refl d

pub bang_said : {st : List Bracket} {p : Bool} (rest : List ℕ) {us : List Token} → Lexed st false rest us → Lexed st p (33 ∷ rest) (t.Symbol s.Bang ∷ us)
bang_said rest d = single 33 [] (sign_any 33 [] rest s.Bang refl (λ y. refl) refl refl) refl refl d

dot_row : (y : ℕ) → nat_eq y 46 ≡ false → begins_no_row (46 ∷ (y ∷ [])) signs ≡ true
dot_row y h = rw h refl

pub dot_said : {st : List Bracket} {p : Bool} (y : ℕ) (rest : List ℕ) {us : List Token} → nat_eq y 46 ≡ false → Lexed st false (y ∷ rest) us → Lexed st p (46 ∷ (y ∷ rest)) (t.Symbol s.Dot ∷ us)
dot_said y rest h d = single 46 [] (sign_before 46 [] y rest s.Dot refl (dot_row y h) refl refl) refl refl d

pub truth_said : (v : Bool) {st : List Bracket} {p : Bool} (rest : List ℕ) {us : List Token} → Ends rest → Lexed st true rest us → Lexed st p (truth_text v ++ rest) (t.Symbol (s.Truth v) ∷ us)
truth_said true rest e d = single 84 (82 ∷ 85 ∷ 69 ∷ []) (piece (l.word (record { all = refl; longest = stops rest e }) refl)) refl refl d
truth_said false rest e d = single 70 (65 ∷ 76 ∷ 83 ∷ 69 ∷ []) (piece (l.word (record { all = refl; longest = stops rest e }) refl)) refl refl d

pub word_said : (v : Word) {st : List Bracket} {p : Bool} (rest : List ℕ) {us : List Token} → Ends rest → Lexed st true rest us → Lexed st p (word_text v ++ rest) (t.Symbol (s.Word v) ∷ us)
word_said words.BooleanSet rest e d = single 66 (79 ∷ 79 ∷ 76 ∷ 69 ∷ 65 ∷ 78 ∷ []) (piece (l.word (record { all = refl; longest = stops rest e }) refl)) refl refl d
word_said words.Nat rest e d = single 78 (97 ∷ 116 ∷ []) (piece (l.word (record { all = refl; longest = stops rest e }) refl)) refl refl d
word_said words.Int rest e d = single 73 (110 ∷ 116 ∷ []) (piece (l.word (record { all = refl; longest = stops rest e }) refl)) refl refl d
word_said words.StringSet rest e d = single 83 (84 ∷ 82 ∷ 73 ∷ 78 ∷ 71 ∷ []) (piece (l.word (record { all = refl; longest = stops rest e }) refl)) refl refl d

pub infix_ends : (o : Infix) (rest : List ℕ) → Ends (infix_text o ++ rest)
infix_ends op.Implies rest = (refl, refl)
infix_ends op.Iff rest = (refl, refl)
infix_ends op.And rest = (refl, refl)
infix_ends op.Or rest = (refl, refl)
infix_ends op.Equal rest = (refl, refl)
infix_ends op.Differs rest = (refl, refl)
infix_ends op.Less rest = (refl, refl)
infix_ends op.Greater rest = (refl, refl)
infix_ends op.AtMost rest = (refl, refl)
infix_ends op.AtLeast rest = (refl, refl)
infix_ends op.In rest = (refl, refl)
infix_ends op.NotIn rest = (refl, refl)
infix_ends op.SubsetEq rest = (refl, refl)
infix_ends op.Merge rest = (refl, refl)
infix_ends op.Single rest = (refl, refl)
infix_ends op.Union rest = (refl, refl)
infix_ends op.Intersect rest = (refl, refl)
infix_ends op.Without rest = (refl, refl)
infix_ends op.Range rest = (refl, refl)
infix_ends op.Add rest = (refl, refl)
infix_ends op.Subtract rest = (refl, refl)
infix_ends op.Modulo rest = (refl, refl)
infix_ends op.Multiply rest = (refl, refl)
infix_ends op.Concat rest = (refl, refl)
infix_ends op.Divide rest = (refl, refl)

pub prefix_begins : (o : Prefix) (rest : List ℕ) → Begins (prefix_text o ++ rest)
prefix_begins pre.Not rest = (refl, refl, refl)
prefix_begins pre.Minus rest = (refl, refl, refl)
prefix_begins pre.Powerset rest = (refl, refl, refl)
prefix_begins pre.Flatten rest = (refl, refl, refl)
prefix_begins pre.Domain rest = (refl, refl, refl)

pub quantifier_begins : (q : Quantifier) (rest : List ℕ) → Begins (quantifier_text q ++ rest)
quantifier_begins quantifier.Exists rest = (refl, refl, refl)
quantifier_begins quantifier.Forall rest = (refl, refl, refl)

pub truth_begins : (v : Bool) (rest : List ℕ) → Begins (truth_text v ++ rest)
truth_begins true rest = (refl, refl, refl)
truth_begins false rest = (refl, refl, refl)
