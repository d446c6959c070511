-- The tokens of a specification's text before a fault.
use Rattle.std.specs.Prelude.{◌≡◌, ◌≤◌, ◌<◌, ◌+◌, ◌-◌, ℕ, List, [], ◌++◌, length, Some, None}
use Rattle.pgo_lexer.specs.declared.token.Lexeme.{Lexeme}
use Rattle.pgo_lexer.specs.declared.before.Before.{Before}
use Rattle.pgo_lexer.specs.Lexemes.{columns_behind}
use Rattle.pgo_lexer.specs.Prefixes.{LexesTo, IsMarkedTo}
use Rattle.pgo_spec_text.specs.declared.before.SpecBefore.{SpecBefore}
use Rattle.pgo_spec_text.specs.SpecText.{IsFirst, IsModuleLine, IsAlgorithmComment, Cut, HasNoAlgorithm, Anything, AllAllowed, EndsWithBrace, mpcal, most_tokens}

-- the tokens of `part`, which stands behind all of `before`, up to a fault, with their marks; columns and offsets are those of
-- the whole text
pub record IsPartBefore (before part : List ℕ) (fault : ℕ) (b : Before) : Type 0 where
  pub unmarked : List Lexeme
  pub lexed : LexesTo fault (columns_behind 0 before) (length before) part unmarked
  pub marked : IsMarkedTo fault unmarked b

-- ---- the algorithm

-- the algorithm stands between `before` and `passed`, up to the `}` that matches its first `{`, and has these tokens, no more
-- than there is room for
pub record IsWholeAlgorithm (before part passed : List ℕ) (room : ℕ) (unmarked : List Lexeme) : Type 0 where
  pub cut : Cut Anything before part passed unmarked
  pub ends : EndsWithBrace unmarked
  pub allowed : AllAllowed unmarked
  pub few : length unmarked ≤ room

-- the tokens before a fault in a comment's bytes behind its `--mpcal` and before its `*)`: where the algorithm is whole there,
-- those of its tokens that stand before the fault, else all of these bytes up to the fault
pub data IsAlgorithmBefore (before body : List ℕ) (room fault : ℕ) (b : Before) : Type 0 where
  whole : (part passed : List ℕ) (unmarked : List Lexeme) → body ≡ part ++ passed → IsWholeAlgorithm before part passed room unmarked → IsMarkedTo fault unmarked b
      → IsAlgorithmBefore before body room fault b
  not_whole : ((part passed : List ℕ) (unmarked : List Lexeme) → body ≡ part ++ passed → IsWholeAlgorithm before part passed room unmarked → ⊥) → IsPartBefore before body fault b
      → IsAlgorithmBefore before body room fault b

-- ---- the header

-- the header stands between `before` and `rest`, which begins with the comment with the algorithm, and has these tokens
pub record IsWholeHeader (before part rest : List ℕ) (unmarked : List Lexeme) : Type 0 where
  pub opening : List ℕ
  pub body : List ℕ
  pub comment : List ℕ
  pub behind : List ℕ
  pub cut : Cut HasNoAlgorithm before part rest unmarked
  pub allowed : AllAllowed unmarked
  pub few : length unmarked ≤ most_tokens
  pub both : rest ≡ comment ++ behind
  pub is_comment : IsAlgorithmComment comment opening body

-- the tokens before a fault behind all of `before`, where the line of MODULE begins: where the header is whole before the
-- fault, all of its tokens and those of the algorithm before the fault; else the tokens up to the fault, all in one list
pub data ArePartsBefore (before text : List ℕ) (fault : ℕ) (s : SpecBefore) : Type 0 where
  whole : (part rest : List ℕ) (unmarked : List Lexeme) → text ≡ part ++ rest → (h : IsWholeHeader before part rest unmarked) → length before + length part < fault
      → IsMarkedTo (length before + length part) unmarked s.header
      → (a : Before) → s.algorithm ≡ Some a → IsAlgorithmBefore (before ++ (part ++ (h.opening ++ mpcal))) h.body (most_tokens - length unmarked) fault a → ArePartsBefore before text fault s
  not_whole : ((part rest : List ℕ) (unmarked : List Lexeme) → text ≡ part ++ rest → IsWholeHeader before part rest unmarked → fault ≤ length before + length part)
      → IsPartBefore before text fault s.header → s.algorithm ≡ None → ArePartsBefore before text fault s

-- ---- the whole

-- the tokens before a fault of a text: none, where there is no line of MODULE, or those behind the beginning of the first one
pub data IsSpecBefore (text : List ℕ) (fault : ℕ) (s : SpecBefore) : Type 0 where
  no_line : ((before rest : List ℕ) → text ≡ before ++ rest → IsModuleLine before rest → ⊥) → IsMarkedTo fault [] s.header → s.algorithm ≡ None → IsSpecBefore text fault s
  line : (before rest : List ℕ) → text ≡ before ++ rest → IsFirst IsModuleLine before rest → ArePartsBefore before rest fault s → IsSpecBefore text fault s
