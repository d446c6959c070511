-- One more token, and the place of what stands behind a piece.
use Rattle.std.proofs.Common.{◌≡◌, ◌<◌, ◌+◌, ℕ, Bool, true, false, ◌&&◌, nat_lt, List, [], ◌∷◌, ◌++◌, length, Some, None, sym}
use Rattle.std.proofs.lemmas.Bool.{and_parts, ltb-true, lt-ltb}
use Rattle.std.proofs.lemmas.List.{length-append}
use Rattle.std.proofs.lemmas.List.Sums.{fold-append}
use Rattle.pgo_lexer.specs.declared.token.Token.{Token}
use Rattle.pgo_lexer.specs.declared.token.Lexeme.{Lexeme}
use Rattle.pgo_lexer.specs.Lexemes.{column_behind, columns_behind}
use Rattle.pgo_lexer.proofs.Runs.{if_some, no_some, cond_true}
use Rattle.pgo_spec_text.specs.SpecText.{lexeme, is_allowed}
use Rattle.pgo_spec_text.specs.Cutting.{added}

-- the column and the offset of a place
abbrev pub column_of : List ℕ → ℕ
column_of before = columns_behind 0 before

pub column_further : (before piece : List ℕ) → columns_behind (column_of before) piece ≡ column_of (before ++ piece)
column_further before piece = sym (fold-append column_behind 0 before piece)

pub offset_further : (before piece : List ℕ) → length before + length piece ≡ length (before ++ piece)
offset_further before piece = sym (length-append before piece)

-- what is given where the limit allows a token
pub record Added (limit : ℕ) (before piece : List ℕ) (token : Token) (done more : List Lexeme) : Type 0 where
  pub allowed : is_allowed token ≡ true
  pub room : length done < limit
  pub is : more ≡ done ++ lexeme token before piece ∷ []

pub added_sound : (limit : ℕ) (before piece : List ℕ) (token : Token) (done more : List Lexeme) → added limit (column_of before) (length before) done (length piece) (Some token) ≡ Some more → Added limit before piece token done more
added_sound limit before piece token done more e =
    if_some (is_allowed token && nat_lt (length done) limit) (Some (done ++ lexeme token before piece ∷ [])) None more (Added limit before piece token done more) e
    (λ t e. let q = and_parts (is_allowed token) (nat_lt (length done) limit) t in record { allowed = q.0; room = ltb-true (length done) limit q.1; is = cc })
    (λ _ e. no_some more _ e)

both : (a b : Bool) → a ≡ true → b ≡ true → (a && b) ≡ true
both true b e f = f
both false b e f = cc

pub added_complete : (limit : ℕ) (before piece : List ℕ) (token : Token) (done : List Lexeme) → is_allowed token ≡ true → length done < limit → added limit (column_of before) (length before) done (length piece) (Some token) ≡ Some (done ++ lexeme token before piece ∷ [])
added_complete limit before piece token done allowed room = cond_true (is_allowed token && nat_lt (length done) limit) _ _ (both (is_allowed token) _ allowed (lt-ltb (length done) limit room))
