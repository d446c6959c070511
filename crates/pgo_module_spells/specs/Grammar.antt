-- Which lists of tokens spell the parts of a written module: one rule for each form of the grammar. Words and names stand in the order of the
-- module's lines; any expressions stand in the definitions, in any layout.
use Rattle.std.specs.Prelude.{◌≡◌, ℕ, List, [], ◌∷◌, ◌++◌, codes}
use Rattle.pgo_base.specs.declared.expr.Infix.TheVariants as operator
use Rattle.pgo_base.specs.Lookup.{Name}
use Rattle.pgo_base.specs.Tree.{Tree}
use Rattle.pgo_model.specs.Val.{Defined, Means}
use Rattle.pgo_lexer.specs.declared.symbol.Bracket.TheVariants as bracket
use Rattle.pgo_lexer.specs.declared.symbol.Symbol.TheVariants as symbol
use Rattle.pgo_lexer.specs.declared.token.Lexeme.{Lexeme}
use Rattle.pgo_syntax.specs.declared.name.PlacedName.{PlacedName}
use Rattle.pgo_syntax.specs.PlacedNames.{names_of}
use Rattle.pgo_mpcal_read.specs.Elements.{Spot, at, word, IsName, IsExpressionWithin, Items, Row}
use Rattle.pgo_mpcal_read.specs.Spells.{IsDashes}
use Rattle.pgo_module_spells.specs.Parts.{Parts}

-- the greatest height of an expression of a module
abbrev pub most_height : ℕ
most_height = 512

abbrev pub IsExpression : List Lexeme → Tree → Type 0
IsExpression = IsExpressionWithin most_height

-- `name == e` and `name(names) == e`
pub data IsDefined : List Lexeme → Defined → Type 0 where
  without_parameters : {n d : Spot} {x : Name} {ts : List Lexeme} {e : Tree} → IsExpression ts e → IsDefined (word n x ∷ (at d symbol.Defines ∷ ts)) (Means x [] e)
  with_parameters : {n o : Spot} (c d : Spot) {x : Name} {xs ts : List Lexeme} {ps : List PlacedName} {e : Tree} → Items IsName symbol.Comma xs ps → IsExpression ts e
      → IsDefined (word n x ∷ (at o (symbol.Open bracket.Round) ∷ (xs ++ (at c (symbol.Close bracket.Round) ∷ (at d symbol.Defines ∷ ts))))) (Means x (names_of ps) e)

-- the modules of the line of EXTENDS
abbrev pub extended : List Name
extended = codes "Integers" ∷ codes "Sequences" ∷ codes "FiniteSets" ∷ codes "TLC" ∷ []

-- `---- MODULE name ----` and `EXTENDS Integers, Sequences, FiniteSets, TLC`
pub data IsHeading : List Lexeme → Name → Type 0 where
  heading : (p n e : Spot) {x : Name} {xs ys zs : List Lexeme} {es : List PlacedName} → IsDashes xs → IsDashes ys → Items IsName symbol.Comma zs es → names_of es ≡ extended
      → IsHeading (xs ++ (word p (codes "MODULE") ∷ (word n x ∷ (ys ++ (word e (codes "EXTENDS") ∷ zs))))) x

-- names with commas between them, behind this word
pub data AreListed (heading : Name) : List Lexeme → List Name → Type 0 where
  listed : (p : Spot) {xs : List Lexeme} {ns : List PlacedName} → Items IsName symbol.Comma xs ns → AreListed heading (word p heading ∷ xs) (names_of ns)

-- `Spec == Init /\ [][Next]_vars`, and the closing row, which is two `==`
pub data IsEnding : List Lexeme → Type 0 where
  ending : {n d i a b o x c v p q : Spot}
      → IsEnding (word n (codes "Spec") ∷ (at d symbol.Defines ∷ (word i (codes "Init") ∷ (at a (symbol.Infix operator.And) ∷ (at b symbol.Box ∷ (at o (symbol.Open bracket.Square) ∷ (word x (codes "Next") ∷ (at c (symbol.Close bracket.Square) ∷ (word v (codes "_vars") ∷ (at p symbol.Defines ∷ (at q symbol.Defines ∷ [])))))))))))

-- all lines in their order
pub data AreParts : List Lexeme → Parts → Type 0 where
  parts : {xs cs ds vs fs es : List Lexeme} {x : Name} {ns us : List Name} {ms os : List Defined} → IsHeading xs x → AreListed (codes "CONSTANTS") cs ns → Row IsDefined ds ms
      → AreListed (codes "VARIABLES") vs us → Row IsDefined fs os → IsEnding es
      → AreParts (xs ++ (cs ++ (ds ++ (vs ++ (fs ++ es))))) (record { name = x; constants = ns; definitions = ms; variables = us; further = os })
