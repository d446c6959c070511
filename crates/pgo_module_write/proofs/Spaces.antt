-- Where the tokens of a text stand: one behind the other, and no `==` touches the next token, so the first row is that of the last line.
use Rattle.std.proofs.Common.{◌≡◌, ◌≤◌, ◌<◌, ◌+◌, ℕ, Bool, true, false, ◌&&◌, nat_eq, List, [], ◌∷◌, ◌++◌, length, refl, ap, ◌∙◌, arith}
use Rattle.std.proofs.lemmas.Bool.{eqb-true}
use Rattle.pgo_lexer.specs.declared.token.Token.{Token}
use Rattle.pgo_lexer.specs.declared.token.Lexeme.{Lexeme}

-- Between o ls n: the tokens stand from offset o on and end before n, one byte before it behind a `==`. The test says which tokens are `==`.
pub data Between (is_apart : Token → Bool) : ℕ → List Lexeme → ℕ → Type 0 where
  none : {o n : ℕ} → o ≤ n → Between is_apart o [] n
  other : {o n : ℕ} {l : Lexeme} {ls : List Lexeme} → is_apart l.token ≡ false → o ≤ l.start → l.start < l.stop → Between is_apart l.stop ls n → Between is_apart o (l ∷ ls) n
  apart : {o n : ℕ} {l : Lexeme} {ls : List Lexeme} → o ≤ l.start → l.start < l.stop → Between is_apart (l.stop + 1) ls n → Between is_apart o (l ∷ ls) n

pub between_wider : {t : Token → Bool} {o n : ℕ} {ls : List Lexeme} (o' n' : ℕ) → o' ≤ o → n ≤ n' → Between t o ls n → Between t o' ls n'
between_wider {o = o} {n = n} o' n' h k (none e) = none (omega (arith, h, k, e))
between_wider {o = o} {n = n} o' n' h k (other {l = l} is low some d) = other is (omega (arith, h, low)) some (between_wider l.stop n' (omega arith) k d)
between_wider {o = o} {n = n} o' n' h k (apart {l = l} low some d) = apart (omega (arith, h, low)) some (between_wider (l.stop + 1) n' (omega arith) k d)

pub between_both : {t : Token → Bool} {o n m : ℕ} {xs ys : List Lexeme} → Between t o xs n → Between t n ys m → Between t o (xs ++ ys) m
between_both {n = n} {m = m} (none e) d = between_wider _ m e (omega arith) d
between_both (other is low some c) d = other is low some (between_both c d)
between_both (apart low some c) d = apart low some (between_both c d)

pub as_many_bytes : {t : Token → Bool} {o n : ℕ} {ls : List Lexeme} → Between t o ls n → length ls + o ≤ n
as_many_bytes (none e) = omega (arith, e)
as_many_bytes (other is low some d) = omega (arith, low, some, as_many_bytes d)
as_many_bytes (apart low some d) = omega (arith, low, some, as_many_bytes d)

-- ---- the first row

differs : (a b : ℕ) → a < b → nat_eq b a ≡ false
differs a b h = by_test (nat_eq b a) refl
  where
    by_test : (c : Bool) → nat_eq b a ≡ c → nat_eq b a ≡ false
    by_test true e = absurd (let s = eqb-true b a e in omega (arith, s, h))
    by_test false e = e

and_false : (b : Bool) → (b && false) ≡ false
and_false true = refl
and_false false = refl

-- a row, as the definition of a text has it
abbrev pub is_row_by : (Token → Bool) → Lexeme → Lexeme → Bool
is_row_by t a b = (t a.token && t b.token) && nat_eq b.start a.stop

pub no_row_other : (t : Token → Bool) (a b : Lexeme) → t a.token ≡ false → is_row_by t a b ≡ false
no_row_other t a b h = ap (λ z. (z && t b.token) && nat_eq b.start a.stop) h

pub no_row_apart : (t : Token → Bool) (a b : Lexeme) → a.stop < b.start → is_row_by t a b ≡ false
no_row_apart t a b h = ap (λ z. (t a.token && t b.token) && z) (differs a.stop b.start h) ∙ and_false (t a.token && t b.token)

-- the list's first token stands at this offset or behind it
abbrev pub Begins : ℕ → List Lexeme → Type 0
Begins o [] = Unit {0}
Begins o (l ∷ ls) = o ≤ l.start

pub begins_between : {t : Token → Bool} {o n : ℕ} {xs : List Lexeme} (ys : List Lexeme) → Between t o xs n → Begins n ys → Begins o (xs ++ ys)
begins_between [] (none e) h = tt
begins_between {o = o} {n = n} (y ∷ ys) (none e) h = omega (arith, e, h)
begins_between ys (other is low some d) h = low
begins_between ys (apart low some d) h = low
