-- Which texts spell a written module.
use Rattle.std.specs.Prelude.{◌≡◌, ◌≤◌, ℕ, Bool, true, false, ◌&&◌, nat_eq, List, [], ◌∷◌, ◌++◌, length, Result, Ok, Err}
use Rattle.pgo_base.specs.declared.module.Module as in_memory
use Rattle.pgo_model.specs.Module.{Module}
use Rattle.pgo_model.specs.ModuleView.{module_view}
use Rattle.pgo_lexer.specs.declared.errors.TextStop.{TextStop}
use Rattle.pgo_lexer.specs.declared.errors.TextStop.TheVariants.{Syntax, NoMemory}
use Rattle.pgo_lexer.specs.declared.symbol.Symbol.TheVariants as symbol
use Rattle.pgo_lexer.specs.declared.token.Lexeme.{Lexeme}
use Rattle.pgo_lexer.specs.declared.token.Token.{Token}
use Rattle.pgo_lexer.specs.declared.token.Token.TheVariants as t
use Rattle.pgo_lexer.specs.Layout.{Marks}
use Rattle.pgo_spec_text.specs.SpecText.{IsFirst, IsModuleLine, Cut, Anything}
use Rattle.pgo_expr_read.specs.Lookahead.{tokens_of, has_mapped}
use Rattle.pgo_expr_read.specs.Texts.{most_tokens}
use Rattle.pgo_module_spells.specs.Grammar.{AreParts}
use Rattle.pgo_module_spells.specs.Parts.{parts_of, HasProcesses}

-- ---- the closing row

abbrev pub is_defines : Token → Bool
is_defines (t.Symbol symbol.Defines) = true
is_defines _ = false

-- two `==`, the second where the first one stops
abbrev pub is_row : Lexeme → Lexeme → Bool
is_row a b = (is_defines a.token && is_defines b.token) && nat_eq b.start a.stop

-- the last two of these tokens are a row, and it is the first
pub data EndsWithRow : List Lexeme → Type 0 where
  row : {a b : Lexeme} → is_row a b ≡ true → EndsWithRow (a ∷ (b ∷ []))
  before : {a b : Lexeme} {ls : List Lexeme} → is_row a b ≡ false → EndsWithRow (b ∷ ls) → EndsWithRow (a ∷ (b ∷ ls))

-- ---- the whole

-- a text is: any text; the module, from the dashes of the first line of MODULE to the first row of `====` among its tokens; any text. The
-- module's tokens, with the marks of their junction lists, spell its parts
pub record SpellsModule (text : List ℕ) (m : Module) : Type 0 where
  pub before : List ℕ
  pub part : List ℕ
  pub behind : List ℕ
  pub both : text ≡ before ++ (part ++ behind)
  pub unmarked : List Lexeme
  pub tokens : List Lexeme
  pub line : IsFirst IsModuleLine before (part ++ behind)
  pub cut : Cut Anything before part behind unmarked
  pub ends : EndsWithRow unmarked
  pub few : length unmarked ≤ most_tokens
  pub marks : Marks unmarked tokens
  -- `$variable` and `$value` stand in a mapping macro alone
  pub plain : has_mapped (tokens_of tokens) ≡ false
  pub parts : AreParts tokens (parts_of m)
  pub processes : HasProcesses m

-- the text spells this module, and no other
pub record SpellsAlone (text : List ℕ) (m : Module) : Type 0 where
  pub spells : SpellsModule text m
  pub only : (other : Module) → SpellsModule text other → other ≡ m

-- an answer is this module, unless memory ran out
abbrev pub IsOrNoMemory : Result in_memory.Module TextStop → Module → Type 0
IsOrNoMemory (Ok m) wanted = module_view m ≡ wanted
IsOrNoMemory (Err (Syntax offset)) wanted = ⊥
IsOrNoMemory (Err NoMemory) wanted = Unit {0}
