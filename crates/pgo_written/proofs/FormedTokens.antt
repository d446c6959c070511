-- Tokens of a specification's text are such as its expressions and statements ask for.
use Rattle.std.proofs.Common.{◌≡◌, ℕ, Bool, true, false, ◌&&◌, List, [], ◌∷◌, length, Option, Some, None, refl}
use Rattle.std.proofs.lemmas.Bool.{and_parts, leb-true}
use Rattle.pgo_lexer.specs.Layout.{Marks}
use Rattle.pgo_lexer.specs.Lexemes.{IsPiece, all_are, is_plain}
use Rattle.pgo_lexer.specs.Lexemes as piece
use Rattle.pgo_lexer.specs.declared.token.Lexeme.{Lexeme}
use Rattle.pgo_lexer.specs.declared.token.Token.{Token}
use Rattle.pgo_spec_text.specs.SpecText.{Cut, is_allowed}
use Rattle.pgo_spec_text.specs.SpecText as text
use Rattle.pgo_mpcal_read.specs.Units as units
use Rattle.pgo_expr_write.proofs.Formed.{Told}
use Rattle.pgo_expr_write.proofs.ReadBack.{piece_told}
use Rattle.pgo_agrees.proofs.SpokenStatements.{Quiet}
use Rattle.pgo_agrees.proofs.EachToken.{all_marked}
use Rattle.pgo_written.proofs.FormedSpelled.{Short, AllOk}

-- ---- tokens

abbrev ShortBy : Option Token → Type 0
ShortBy (Some k) = is_allowed k ≡ true → Short k
ShortBy None = Unit {0}

piece_short : {front rest : List ℕ} {o : Option Token} → IsPiece front rest o → ShortBy o
piece_short (piece.blank h) = tt
piece_short (piece.line r) = tt
piece_short (piece.comment c) = tt
piece_short (piece.number r d small) = λ a. tt
piece_short (piece.word r f) = λ a. tt
piece_short (piece.name {bs = bs} r is short) = λ a. (is, leb-true (length bs) 128 a)
piece_short (piece.underscore h) = λ a. tt
piece_short (piece.string q) = λ a. tt
piece_short (piece.slashed r f) = λ a. tt
piece_short (piece.dollar r f) = λ a. tt
piece_short (piece.sign is) = λ a. tt

cut_told : {P : List ℕ → Type 0} {before part rest : List ℕ} {ls : List Lexeme} → Cut P before part rest ls → text.AllAllowed ls → AllOk true ls
cut_told text.end h = tt
cut_told (text.pass p d a r) h = cut_told r h
cut_told (text.token p d r) h = ((piece_short d h.0, piece_told d, tt), cut_told r h.1)

pub tokens_told : {P : List ℕ → Type 0} {before part rest : List ℕ} {ls ms : List Lexeme} → Cut P before part rest ls → text.AllAllowed ls → Marks ls ms → AllOk true ms
tokens_told d a m = all_marked (λ k. Short k × Told k × Quiet true k) (λ o. (tt, tt, tt)) (tt, tt, tt) (tt, tt, tt) m.1 (cut_told d a)

-- ---- without `yield`, `$variable` and `$value`

pub ok_plain : (ls : List Lexeme) → AllOk true ls → units.all_are units.is_plain ls ≡ true → AllOk false ls
ok_plain [] h g = tt
ok_plain (l ∷ ls) h g = let p = and_parts (units.is_plain l.token) (units.all_are units.is_plain ls) g in ((h.0.0, h.0.1, p.0), ok_plain ls h.1 p.1)

pub ok_macro : (ls : List Lexeme) → AllOk true ls → units.all_are units.may_stand_in_macro ls ≡ true → AllOk false ls
ok_macro [] h g = tt
ok_macro (l ∷ ls) h g =
    let p = and_parts (units.may_stand_in_macro l.token) (units.all_are units.may_stand_in_macro ls) g in
    ((h.0.0, h.0.1, first (units.is_plain l.token) _ p.0), ok_macro ls h.1 p.1)
  where
    first : (a b : Bool) → (a && b) ≡ true → a ≡ true
    first true b e = refl
    first false b e = absurd (cc)
