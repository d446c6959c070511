-- Which texts spell a specification.
use Rattle.std.specs.Prelude.{◌≡◌, ℕ, List, Result, Ok, Err}
use Rattle.pgo_lexer.specs.declared.token.Lexeme.{Lexeme}
use Rattle.pgo_lexer.specs.declared.errors.TextStop.{TextStop}
use Rattle.pgo_lexer.specs.declared.errors.TextStop.TheVariants.{Syntax, NoMemory}
use Rattle.pgo_spec_text.specs.SpecText.{IsSpecText}
use Rattle.pgo_syntax.specs.declared.spec.Spec.{Spec}
use Rattle.pgo_mpcal_read.specs.Spells.{SpellsTokens}

-- the tokens of the header and of the algorithm, as the text is laid out, spell the specification
pub record SpellsSpec (text : List ℕ) (s : Spec) : Type 0 where
  pub header : List Lexeme
  pub algorithm : List Lexeme
  pub layout : IsSpecText text header algorithm
  pub spells : SpellsTokens header algorithm s

-- an answer is this specification, unless memory ran out
abbrev pub IsOrNoMemory : Result Spec TextStop → Spec → Type 0
IsOrNoMemory (Ok s) wanted = s ≡ wanted
IsOrNoMemory (Err (Syntax offset)) wanted = ⊥
IsOrNoMemory (Err NoMemory) wanted = Unit {0}
