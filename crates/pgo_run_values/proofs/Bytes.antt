-- Bytes of identifiers, and of strings between quotes.
use Rattle.std.proofs.Common.{◌≡◌, ℕ, Bool, true, false, ◌&&◌, ◌||◌, nat_eq, if◌then◌else◌, List, [], ◌∷◌, Some, None, refl, ap, ◌∙◌, subst, arith}
use Rattle.std.proofs.lemmas.Bool.{and_parts}
use Rattle.std.proofs.lemmas.Bool.Decides.{nat_tests}
use Rattle.pgo_model.specs.BundleParts.{is_string_byte, all_string_bytes}
use Rattle.pgo_model.specs.ValueText.{is_word_byte, all_word_bytes, has_letter, is_identifier}
use Rattle.pgo_lexer.specs.Lexemes.{Quoted, is_plain, is_printed, escaped}
use Rattle.pgo_lexer.specs.Lexemes as piece
use Rattle.pgo_value_text.specs.IsValueText.{is_name}

string_byte : (b : ℕ) → is_word_byte b ≡ true → is_string_byte b ≡ true
string_byte b h = grind (arith, nat_tests)

pub string_bytes : (x : List ℕ) → all_word_bytes x ≡ true → all_string_bytes x ≡ true
string_bytes [] h = refl
string_bytes (b ∷ bs) h = let p = and_parts (is_word_byte b) (all_word_bytes bs) h in ap (λ t. t && all_string_bytes bs) (string_byte b p.0) ∙ string_bytes bs p.1

-- the bytes of an identifier
pub name_bytes : (x : List ℕ) → is_identifier x ≡ true → all_string_bytes x ≡ true
name_bytes x h = string_bytes x (first (all_word_bytes x) (has_letter x) _ h)
  where
    first : (a b c : Bool) → (a && b && c) ≡ true → a ≡ true
    first true b c h = refl
    first false b c h = absurd (cc)

pub short_bytes : (x : List ℕ) → is_name x ≡ true → all_string_bytes x ≡ true
short_bytes x h = name_bytes x (and_parts (is_identifier x) _ h).0

plain_byte : (b : ℕ) → is_plain b ≡ true → is_string_byte b ≡ true
plain_byte b h = let p = and_parts (is_printed b) _ h in grind (arith, nat_tests, p)

escaped_byte : (c b : ℕ) → escaped c ≡ Some b → is_string_byte b ≡ true
escaped_byte c b h = go (nat_eq c 34) (nat_eq c 92) (nat_eq c 110) (nat_eq c 116) refl refl h
  where
    got : (m : ℕ) → Some m ≡ Some b → is_string_byte m ≡ true → is_string_byte b ≡ true
    got m e k = subst (λ n. is_string_byte n ≡ true) (let q : m ≡ b = cc in q) k

    at_34 : nat_eq c 34 ≡ true → is_string_byte c ≡ true
    at_34 e = grind (arith, nat_tests)

    at_92 : nat_eq c 92 ≡ true → is_string_byte c ≡ true
    at_92 e = grind (arith, nat_tests)

    go : (p q r t : Bool) → nat_eq c 34 ≡ p → nat_eq c 92 ≡ q → (if p || q then Some c else if r then Some 10 else if t then Some 9 else None) ≡ Some b → is_string_byte b ≡ true
    go true q r t e f k = got c k (at_34 e)
    go false true r t e f k = got c k (at_92 f)
    go false false true t e f k = got 10 k refl
    go false false false true e f k = got 9 k refl
    go false false false false e f k = absurd (cc)

-- the bytes of a string between quotes
pub quoted_bytes : (bs x : List ℕ) → Quoted bs x → all_string_bytes x ≡ true
quoted_bytes bs x piece.none = refl
quoted_bytes bs x (piece.plain {b = b} {bs = cs} {string = y} p d) = ap (λ t. t && all_string_bytes y) (plain_byte b p) ∙ quoted_bytes cs y d
quoted_bytes bs x (piece.escape {b = b} {c = c} {bs = cs} {string = y} p d) = ap (λ t. t && all_string_bytes y) (escaped_byte c b p) ∙ quoted_bytes cs y d
