-- The tokens of a text piece by piece, without their places: no bullet is among them, and their brackets are closed.
use Rattle.std.proofs.Common.{◌≡◌, ◌≤◌, ◌+◌, ℕ, Bool, true, false, ◌||◌, List, [], ◌∷◌, ◌++◌, length, Some, refl, ap, ◌∙◌, subst, arith}
use Rattle.std.proofs.lemmas.List.{append_assoc, length-append}
use Rattle.pgo_lexer.specs.declared.token.Token.{Token}
use Rattle.pgo_lexer.specs.declared.token.Lexeme.{Lexeme}
use Rattle.pgo_lexer.specs.declared.token.Token.TheVariants as t
use Rattle.pgo_lexer.specs.declared.symbol.Symbol.{Symbol}
use Rattle.pgo_lexer.specs.declared.symbol.Symbol.TheVariants as symbols
use Rattle.pgo_lexer.specs.declared.symbol.Bracket.{Bracket}
use Rattle.pgo_lexer.specs.declared.kind.Kind.TheVariants as kind
use Rattle.pgo_lexer.specs.declared.kind.Role.TheVariants as role
use Rattle.pgo_lexer.specs.Kinds.{kind_of, role_of, ends_operand}
use Rattle.pgo_lexer.specs.Symbols.{find, signs, begins_no_row}
use Rattle.pgo_lexer.specs.Lexemes.{IsPiece, Lexes, columns_behind, opens, opens_line, opens_word}
use Rattle.pgo_lexer.specs.Lexemes as l
use Rattle.pgo_lexer.specs.Layout.{Marked}
use Rattle.pgo_lexer.specs.Layout as m
use Rattle.pgo_lexer.specs.Tokenized.{Tokenized}
use Rattle.pgo_expr_read.specs.Lookahead.{tokens_of, is_mapped, has_mapped}
use Rattle.pgo_expr_read.specs.Texts.{most_tokens}

-- how a token stands before the rest of a text: as a piece of it, or as a sign before a byte with which no longer sign begins
pub data IsWritten : (front rest : List ℕ) → Token → Type 0 where
  piece : {front rest : List ℕ} {k : Token} → IsPiece front rest (Some k) → IsWritten front rest k
  sign : (front rest : List ℕ) (b : ℕ) (symbol : Symbol) → find front signs ≡ Some symbol → begins_no_row (front ++ b ∷ []) signs ≡ true
      → opens (front ++ b ∷ rest) ≡ false → opens_line (front ++ b ∷ rest) ≡ false → opens_word (front ++ b ∷ rest) ≡ false
      → IsWritten front (b ∷ rest) (t.Symbol symbol)

-- that such a sign is a piece is a law of the tokens of texts
abbrev pub SignsEnd : Type 0
SignsEnd = (front rest : List ℕ) (b : ℕ) (symbol : Symbol) → find front signs ≡ Some symbol → begins_no_row (front ++ b ∷ []) signs ≡ true
    → opens (front ++ b ∷ rest) ≡ false → opens_line (front ++ b ∷ rest) ≡ false → opens_word (front ++ b ∷ rest) ≡ false
    → IsPiece front (b ∷ rest) (Some (t.Symbol symbol))

pub as_piece : SignsEnd → {front rest : List ℕ} {k : Token} → IsWritten front rest k → IsPiece front rest (Some k)
as_piece ends (piece is) = is
as_piece ends (sign front rest b symbol found none c n w) = ends front rest b symbol found none c n w

-- `==`
abbrev pub is_defines : Token → Bool
is_defines (t.Symbol symbols.Defines) = true
is_defines _ = false

-- a token that isn't written as others are: those of mapping macros, and `==`, behind which a blank stands
abbrev pub is_apart : Token → Bool
is_apart k = is_mapped k || is_defines k

-- Lexed st p bs ts: the bytes are these tokens. st has the brackets that are open before them, the innermost first, and p
-- says whether an operand ends before them.
pub data Lexed : List Bracket → Bool → List ℕ → List Token → Type 0 where
  end : {p : Bool} → Lexed [] p [] []
  blank : {st : List Bracket} {p : Bool} {rest : List ℕ} {ts : List Token} → Lexed st p rest ts → Lexed st p (32 ∷ rest) ts
  defines : {st : List Bracket} {p : Bool} {rest : List ℕ} {ts : List Token} → Lexed st false rest ts → Lexed st p (61 ∷ 61 ∷ 32 ∷ rest) (t.Symbol symbols.Defines ∷ ts)
  single : {st : List Bracket} {p : Bool} (b : ℕ) (front : List ℕ) {rest : List ℕ} {k : Token} {ts : List Token} → IsWritten (b ∷ front) rest k
      → is_apart k ≡ false → role_of p (kind_of k) ≡ role.Plain → Lexed st (ends_operand k) rest ts → Lexed st p (b ∷ (front ++ rest)) (k ∷ ts)
  opening : {st : List Bracket} {p : Bool} (b : ℕ) (front : List ℕ) {rest : List ℕ} {k : Token} {ts : List Token} {z : Bracket} → IsWritten (b ∷ front) rest k
      → is_mapped k ≡ false → kind_of k ≡ kind.Open z → Lexed (z ∷ st) false rest ts → Lexed st p (b ∷ (front ++ rest)) (k ∷ ts)
  closing : {st : List Bracket} {p : Bool} (b : ℕ) (front : List ℕ) {rest : List ℕ} {k : Token} {ts : List Token} {z : Bracket} → IsWritten (b ∷ front) rest k
      → is_mapped k ≡ false → kind_of k ≡ kind.Close z → Lexed st true rest ts → Lexed (z ∷ st) p (b ∷ (front ++ rest)) (k ∷ ts)

left_false : (a b : Bool) → (a || b) ≡ false → a ≡ false
left_false true b h = cc
left_false false b h = refl

pub plain : {st : List Bracket} {p : Bool} {bs : List ℕ} {ts : List Token} → Lexed st p bs ts → has_mapped ts ≡ false
plain end = refl
plain (blank d) = plain d
plain (defines d) = plain d
plain (single b front {k = k} {ts = ts} is not_apart may d) = ap (λ z. z || has_mapped ts) (left_false (is_mapped k) (is_defines k) not_apart) ∙ plain d
plain (opening b front {ts = ts} is no_mapped may d) = ap (λ z. z || has_mapped ts) no_mapped ∙ plain d
plain (closing b front {ts = ts} is no_mapped may d) = ap (λ z. z || has_mapped ts) no_mapped ∙ plain d

few : {st : List Bracket} {p : Bool} {bs : List ℕ} {ts : List Token} → Lexed st p bs ts → length ts ≤ length bs
few end = omega arith
few (blank d) = omega (arith, few d)
few (defines d) = omega (arith, few d)
few (single b front {rest} is not_apart may d) = omega (arith, few d, length-append front rest)
few (opening b front {rest} is no_mapped may d) = omega (arith, few d, length-append front rest)
few (closing b front {rest} is no_mapped may d) = omega (arith, few d, length-append front rest)

-- `==` before a blank
pub defines_written : (rest : List ℕ) → IsWritten (61 ∷ 61 ∷ []) (32 ∷ rest) (t.Symbol symbols.Defines)
defines_written rest = sign (61 ∷ 61 ∷ []) rest 32 symbols.Defines refl refl refl refl refl

-- ---- marks

-- the tokens with no mark among them, behind these open brackets
pub data Nest : List Bracket → Bool → List Lexeme → Type 0 where
  whole : {p q : Bool} {rs : List Lexeme} → Marked true 0 p rs rs q → Nest [] p rs
  inside : {k : Bracket} {ks : List Bracket} {p u : Bool} (z : Lexeme) {xs rs : List Lexeme} → Marked true 0 p xs xs u → kind_of z.token ≡ kind.Close k → Nest ks true rs
      → Nest (k ∷ ks) p (xs ++ (z ∷ rs))

nest_plain : {st : List Bracket} {p : Bool} (r : Lexeme) {rs : List Lexeme} → role_of p (kind_of r.token) ≡ role.Plain → Nest st (ends_operand r.token) rs → Nest st p (r ∷ rs)
nest_plain r is (whole d) = whole (m.plain (omega arith) is d)
nest_plain r is (inside z {xs = xs} d c n) = inside z {xs = r ∷ xs} (m.plain (omega arith) is d) c n

nest_open : {st : List Bracket} {p : Bool} {k : Bracket} (o : Lexeme) {rs : List Lexeme} → kind_of o.token ≡ kind.Open k → Nest (k ∷ st) false rs → Nest st p (o ∷ rs)
nest_open o is (inside z d c (whole e)) = whole (m.bracket z (omega arith) is d (omega arith) c e)
nest_open {p = p} o is (inside z {xs = xs} d c (inside {k = k'} {ks = ks} y {xs = ys} {rs = rs} e c' n)) =
    let P : List Lexeme → Type 0 = λ w. Nest (k' ∷ ks) p (o ∷ w) in
    subst P (append_assoc xs (z ∷ ys) (y ∷ rs)) (inside y {xs = o ∷ (xs ++ (z ∷ ys))} (m.bracket z (omega arith) is d (omega arith) c e) c' n)

nest_close : {st : List Bracket} {p : Bool} {k : Bracket} (r : Lexeme) {rs : List Lexeme} → kind_of r.token ≡ kind.Close k → Nest st true rs → Nest (k ∷ st) p (r ∷ rs)
nest_close r is n = inside r {xs = []} m.done is n

-- ---- places

pub record Placed (st : List Bracket) (p : Bool) (c o : ℕ) (bs : List ℕ) (ts : List Token) : Type 0 where
  pub lexemes : List Lexeme
  pub lexed : Lexes c o bs lexemes
  pub same : tokens_of lexemes ≡ ts
  pub nest : Nest st p lexemes

abbrev at_place : Token → (c o n : ℕ) → Lexeme
at_place k c o n = record { token = k; column = c; start = o; stop = o + n }

pub placed : SignsEnd → {st : List Bracket} {p : Bool} {bs : List ℕ} {ts : List Token} → Lexed st p bs ts → (c o : ℕ) → Placed st p c o bs ts
placed ends end c o = record { lexemes = []; lexed = l.end; same = refl; nest = whole m.done }
placed ends (blank d) c o =
    let q = placed ends d (columns_behind c (32 ∷ [])) (o + length {A = ℕ} (32 ∷ [])) in
    record { lexemes = q.lexemes; lexed = l.pass (32 ∷ []) (l.blank refl) q.lexed; same = q.same; nest = q.nest }
placed ends (defines {rest = rest} d) c o =
    let q = placed ends d (columns_behind (columns_behind c (61 ∷ 61 ∷ [])) (32 ∷ [])) (o + length {A = ℕ} (61 ∷ 61 ∷ []) + length {A = ℕ} (32 ∷ [])) in
    record {
      lexemes = at_place (t.Symbol symbols.Defines) c o 2 ∷ q.lexemes;
      lexed = l.token (61 ∷ 61 ∷ []) (as_piece ends (defines_written rest)) (l.pass (32 ∷ []) (l.blank refl) q.lexed);
      same = ap (λ z. t.Symbol symbols.Defines ∷ z) q.same;
      nest = nest_plain (at_place (t.Symbol symbols.Defines) c o 2) refl q.nest;
    }
placed ends (single b front {k = k} is not_apart may d) c o =
    let q = placed ends d (columns_behind c (b ∷ front)) (o + length (b ∷ front)) in
    record {
      lexemes = at_place k c o (length (b ∷ front)) ∷ q.lexemes;
      lexed = l.token (b ∷ front) (as_piece ends is) q.lexed;
      same = ap (λ z. k ∷ z) q.same;
      nest = nest_plain (at_place k c o (length (b ∷ front))) may q.nest;
    }
placed ends (opening b front {k = k} is no_mapped may d) c o =
    let q = placed ends d (columns_behind c (b ∷ front)) (o + length (b ∷ front)) in
    record {
      lexemes = at_place k c o (length (b ∷ front)) ∷ q.lexemes;
      lexed = l.token (b ∷ front) (as_piece ends is) q.lexed;
      same = ap (λ z. k ∷ z) q.same;
      nest = nest_open (at_place k c o (length (b ∷ front))) may q.nest;
    }
placed ends (closing b front {k = k} is no_mapped may d) c o =
    let q = placed ends d (columns_behind c (b ∷ front)) (o + length (b ∷ front)) in
    record {
      lexemes = at_place k c o (length (b ∷ front)) ∷ q.lexemes;
      lexed = l.token (b ∷ front) (as_piece ends is) q.lexed;
      same = ap (λ z. k ∷ z) q.same;
      nest = nest_close (at_place k c o (length (b ∷ front))) may q.nest;
    }

as_many : (ls : List Lexeme) → length ls ≡ length (tokens_of ls)
as_many [] = refl
as_many (x ∷ ls) = omega (arith, as_many ls)

-- the tokens of the whole text, which need no marks
pub record Whole (bs : List ℕ) (ts : List Token) : Type 0 where
  pub lexemes : List Lexeme
  pub tokenized : Tokenized most_tokens bs lexemes
  pub same : tokens_of lexemes ≡ ts

whole_of : (bs : List ℕ) (ts : List Token) (ls : List Lexeme) → Nest [] false ls → Lexes 0 0 bs ls → tokens_of ls ≡ ts → length ls ≤ most_tokens → Whole bs ts
whole_of bs ts ls (whole {q = q} d) lexed same small =
    record { lexemes = ls; tokenized = record { unmarked = ls; lexed = lexed; few = small; marked = (q, d) }; same = same }

pub tokenized : SignsEnd → (bs : List ℕ) (ts : List Token) → Lexed [] false bs ts → length bs ≤ most_tokens → Whole bs ts
tokenized ends bs ts d small =
    let q = placed ends d 0 0 in
    let n : length q.lexemes ≡ length ts = as_many q.lexemes ∙ ap length q.same in
    whole_of bs ts q.lexemes q.nest q.lexed q.same (omega (arith, n, few d, small))
