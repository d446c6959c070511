-- Which lists of tokens spell a specification.
use Rattle.std.specs.Prelude.{◌≡◌, ◌≤◌, List, [], ◌∷◌, ◌++◌, length, Option, Some, None, codes, true}
use Rattle.pgo_lexer.specs.declared.token.Lexeme.{Lexeme}
use Rattle.pgo_expr_read.specs.Kinds.{Name}
use Rattle.pgo_syntax.specs.declared.name.PlacedName.{PlacedName}
use Rattle.pgo_syntax.specs.Statement.{labeled}
use Rattle.pgo_syntax.specs.declared.archetype.Archetype.{Archetype}
use Rattle.pgo_syntax.specs.declared.declaration.Declaration.{Declaration}
use Rattle.pgo_syntax.specs.declared.declaration.Definition.{Definition}
use Rattle.pgo_syntax.specs.declared.process.Process.{Process}
use Rattle.pgo_syntax.specs.declared.spec.Spec.{Spec}
use Rattle.pgo_mpcal_read.specs.declared.depths.MacroDepth.{MacroDepth}
use Rattle.pgo_mpcal_read.specs.Depths.{labeled_depth}
use Rattle.pgo_mpcal_read.specs.declared.header.Header.{Header}
use Rattle.pgo_base.specs.declared.expr.Infix.TheVariants as operator
use Rattle.pgo_lexer.specs.declared.symbol.Bracket.TheVariants as bracket
use Rattle.pgo_lexer.specs.declared.symbol.Symbol.TheVariants as symbol
use Rattle.pgo_mpcal_read.specs.declared.units.Units.{Units}
use Rattle.pgo_mpcal_read.specs.Elements.{Spot, at, word, placed, IsName, most_depth, Items}
use Rattle.pgo_mpcal_read.specs.Units.{IsDefinition, is_plain, all_are, AreUnits}

-- ---- the header

-- a row of `-`, each behind the first where the one before it stops
pub data IsRow : List Lexeme → Type 0 where
  dash : {p : Spot} → IsRow (at p (symbol.Infix operator.Subtract) ∷ [])
  dashes : {p q : Spot} {xs : List Lexeme} → q.start ≡ p.stop → IsRow (at q (symbol.Infix operator.Subtract) ∷ xs) → IsRow (at p (symbol.Infix operator.Subtract) ∷ (at q (symbol.Infix operator.Subtract) ∷ xs))

-- four or more
pub record IsDashes (ts : List Lexeme) : Type 0 where
  pub row : IsRow ts
  pub long : 4 ≤ length ts

-- nothing, or `EXTENDS names`
pub data IsExtends : List Lexeme → List PlacedName → Type 0 where
  no_extends : IsExtends [] []
  extends : {p : Spot} {xs : List Lexeme} {ns : List PlacedName} → Items IsName symbol.Comma xs ns → IsExtends (word p (codes "EXTENDS") ∷ xs) ns

pub data IsConstantsWord : Name → Type 0 where
  one : IsConstantsWord (codes "CONSTANT")
  several : IsConstantsWord (codes "CONSTANTS")

-- `CONSTANTS names`, or a definition, and the header before it and behind it
pub data IsPart (h : Header) : List Lexeme → Header → Type 0 where
  constants : {p : Spot} {x : Name} {xs : List Lexeme} {ns : List PlacedName} → IsConstantsWord x → Items IsName symbol.Comma xs ns
      → IsPart h (word p x ∷ xs) (record h { constants = h.constants ++ ns })
  definition : {xs : List Lexeme} {d : Definition} → IsDefinition xs d → IsPart h xs (record h { definitions = h.definitions ++ d ∷ [] })

-- `---- MODULE name ----`, EXTENDS, constants and definitions
pub data IsHeader : List Lexeme → Header → Type 0 where
  title : (p n : Spot) {x : Name} {xs ys zs : List Lexeme} {es : List PlacedName} → IsDashes xs → IsDashes ys → IsExtends zs es
      → IsHeader (xs ++ (word p (codes "MODULE") ∷ (word n x ∷ (ys ++ zs)))) (record { name = placed n x; extends = es; constants = []; definitions = [] })
  part : {xs ys : List Lexeme} {a h : Header} → IsHeader xs h → IsPart h ys a → IsHeader (xs ++ ys) a

-- ---- the specification

abbrev pub declarations_of : Option (List Declaration) → List Declaration
declarations_of (Some ds) = ds
declarations_of None = []

-- no statement of these archetypes is deeper than the limit, with all of these macros in the place of their calls
pub data AreWithinDepth (ms : List MacroDepth) : List Archetype → Type 0 where
  no_archetype : AreWithinDepth ms []
  archetype : {a : Archetype} {as' : List Archetype} → labeled_depth ms (labeled a.body) ≤ most_depth → AreWithinDepth ms as' → AreWithinDepth ms (a ∷ as')

-- of one header and one algorithm: `name { units }` with at least one process
pub data SpellsTokens : (header algorithm : List Lexeme) → Spec → Type 0 where
  spec : {n o : Spot} (c : Spot) {x : Name} {hs xs : List Lexeme} {h : Header} {us : Units} {q : Process} {qs : List Process} → IsHeader hs h → all_are is_plain hs ≡ true
      → AreUnits xs us → AreWithinDepth us.depths us.archetypes → us.processes ≡ q ∷ qs
      → SpellsTokens hs (word n x ∷ (at o (symbol.Open bracket.Curly) ∷ (xs ++ (at c (symbol.Close bracket.Curly) ∷ []))))
      (record { name = h.name; extends = h.extends; constants = h.constants; definitions = h.definitions; algorithm = placed n x; define = us.define; macros = us.macros; mappings = us.mappings; archetypes = us.archetypes; globals = declarations_of us.globals; processes = us.processes })
