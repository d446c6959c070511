-- Words and signs that must stand in a row: what is read is so, and what is so is read.
use Rattle.std.proofs.Common.{◌≡◌, Bool, true, false, List, [], ◌∷◌, ◌++◌, Some, None, refl, ap, ◌∙◌, cond}
use Rattle.pgo_lexer.specs.declared.symbol.Symbol.{Symbol}
use Rattle.pgo_lexer.specs.declared.token.Lexeme.{Lexeme}
use Rattle.pgo_lexer.specs.declared.token.Token.{Token}
use Rattle.pgo_lexer.specs.declared.token.Token.TheVariants as t
use Rattle.pgo_expr_read.specs.Kinds.{Name}
use Rattle.pgo_model.specs.Names.{same_bytes-self, same_bytes-is}
use Rattle.pgo_mpcal_read.specs.Elements.{Spot, at, word}
use Rattle.pgo_mpcal_read.specs.Elements as elements
use Rattle.pgo_expr_read.specs.Steps.{and_then, skip}
use Rattle.pgo_mpcal_read.specs.Reading.{Parser}
use Rattle.pgo_mpcal_read.specs.ReadingSpec.{is_word, sees_word, expect_word}
use Rattle.pgo_expr_read.proofs.Steps.{some_pair, next_step}
use Rattle.pgo_mpcal_read.proofs.Parts.{Sound, spot, expect_then, expect_gives}
use Rattle.pgo_module_read.specs.Reading.{Fixed, fixed}
use Rattle.pgo_module_read.specs.Reading as f

-- ---- one word

word_of : (w : Name) (k : Token) → is_word w k ≡ true → k ≡ t.Name w
word_of w (t.Name x) e = ap t.Name (same_bytes-is x w e)
word_of w _ e = cc

seen_word : (w : Name) (i : List Lexeme) → sees_word w i ≡ true → (p : Spot) × (i ≡ word p w ∷ skip i)
seen_word w [] e = cc
seen_word w (l ∷ i) e = (spot l, ap (λ z. elements.lexeme (spot l) z ∷ i) (word_of w l.token e))

word_by : {B : Type 0} (b : Bool) (w : Name) (i : List Lexeme) (f : Unit {0} → Parser B) (y : B × List Lexeme) (C : Type 0) → sees_word w i ≡ b → and_then (cond b (Some (tt, skip i)) None) f ≡ Some y
    → ((p : Spot) (j : List Lexeme) → i ≡ word p w ∷ j → f tt j ≡ Some y → C) → C
word_by true w i f y C is e k = let s = seen_word w i is in k s.0 (skip i) s.1 e
word_by false w i f y C is e k = cc

pub word_then : {B : Type 0} (w : Name) (i : List Lexeme) (f : Unit {0} → Parser B) (y : B × List Lexeme) (C : Type 0) → and_then (expect_word w i) f ≡ Some y
    → ((p : Spot) (j : List Lexeme) → i ≡ word p w ∷ j → f tt j ≡ Some y → C) → C
unfolding expect_word
word_then w i f y C e k = word_by (sees_word w i) w i f y C refl e k

pub word_gives : (w : Name) (p : Spot) (i : List Lexeme) → expect_word w (word p w ∷ i) ≡ Some (tt, i)
unfolding expect_word
word_gives w p i = ap (λ b. cond b (Some (tt, i)) None) (same_bytes-self w)

-- ---- rows

pub data AreFixed : List Fixed → List Lexeme → Type 0 where
  none : AreFixed [] []
  word_next : {p : Spot} {w : Name} {ks : List Fixed} {ts : List Lexeme} → AreFixed ks ts → AreFixed (f.word w ∷ ks) (word p w ∷ ts)
  sign_next : {p : Spot} {v : Symbol} {ks : List Fixed} {ts : List Lexeme} → AreFixed ks ts → AreFixed (f.sign v ∷ ks) (at p v ∷ ts)

abbrev pub FixedUnit : List Fixed → List Lexeme → Unit {0} → Type 0
FixedUnit ks ts u = AreFixed ks ts

pub sound_fixed : (ks : List Fixed) → Sound (FixedUnit ks) (fixed ks)
sound_fixed [] i a rest got = record { front = []; split = (some_pair _ _ _ _ got).1; holds = none }
sound_fixed (f.word w ∷ ks) i a rest got =
    word_then w i _ _ _ got (λ p j is got.
    let g = sound_fixed ks j a rest got in
    record { front = word p w ∷ g.front; split = is ∙ ap (λ z. word p w ∷ z) g.split; holds = word_next g.holds })
sound_fixed (f.sign v ∷ ks) i a rest got =
    expect_then v i _ _ _ got (λ p j is got.
    let g = sound_fixed ks j a rest got in
    record { front = at p v ∷ g.front; split = is ∙ ap (λ z. at p v ∷ z) g.split; holds = sign_next g.holds })

pub fixed_gives : {ks : List Fixed} {ts : List Lexeme} → AreFixed ks ts → (rest : List Lexeme) → fixed ks (ts ++ rest) ≡ Some (tt, rest)
fixed_gives none rest = refl
fixed_gives (word_next {p = p} {w = w} {ts = ts} d) rest = next_step _ _ _ _ _ (word_gives w p (ts ++ rest)) (fixed_gives d rest)
fixed_gives (sign_next {p = p} {v = v} {ts = ts} d) rest = next_step _ _ _ _ _ (expect_gives v p (ts ++ rest)) (fixed_gives d rest)
