-- Which lists of tokens spell the parts of a specification: one rule for each form of the grammar.
use Rattle.std.specs.Prelude.{◌≡◌, ℕ, ◌≤◌, Bool, true, not, ◌&&◌, List, [], ◌∷◌, ◌++◌, Option, Some, None}
use Rattle.pgo_base.specs.Tree.{Tree}
use Rattle.pgo_lexer.specs.declared.token.Lexeme.{Lexeme}
use Rattle.pgo_lexer.specs.declared.token.Token.{Token}
use Rattle.pgo_expr_read.specs.Kinds.{Name}
use Rattle.pgo_syntax.specs.declared.name.PlacedName.{PlacedName}
use Rattle.pgo_syntax.specs.declared.archetype.Archetype.{Archetype}
use Rattle.pgo_syntax.specs.declared.archetype.Extent.{Extent}
use Rattle.pgo_syntax.specs.declared.archetype.Extent.TheVariants as extent
use Rattle.pgo_syntax.specs.declared.archetype.Parameter.{Parameter}
use Rattle.pgo_syntax.specs.declared.archetype.ParameterKind.TheVariants as parameter
use Rattle.pgo_syntax.specs.declared.binding.Origin.{Origin}
use Rattle.pgo_syntax.specs.declared.declaration.Declaration.{Declaration}
use Rattle.pgo_syntax.specs.declared.declaration.Definition.{Definition}
use Rattle.pgo_syntax.specs.declared.macros.Macro.{Macro}
use Rattle.pgo_syntax.specs.declared.macros.MappingMacro.{MappingMacro}
use Rattle.pgo_syntax.specs.declared.process.Argument.{Argument}
use Rattle.pgo_syntax.specs.declared.process.Argument.TheVariants as argument
use Rattle.pgo_syntax.specs.declared.process.MappingClause.{MappingClause}
use Rattle.pgo_syntax.specs.declared.process.MappingTarget.{MappingTarget}
use Rattle.pgo_syntax.specs.declared.process.MappingTarget.TheVariants as target
use Rattle.pgo_syntax.specs.declared.process.Process.{Process}
use Rattle.pgo_syntax.specs.Statement.{Statement, labeled}
use Rattle.pgo_base.specs.declared.expr.Infix.TheVariants as operator
use Rattle.pgo_lexer.specs.declared.symbol.Bracket.TheVariants as bracket
use Rattle.pgo_lexer.specs.declared.symbol.Keyword.TheVariants as keyword
use Rattle.pgo_lexer.specs.declared.symbol.Symbol.TheVariants as symbol
use Rattle.pgo_expr_read.specs.Signs.{is_sign}
use Rattle.pgo_mpcal_read.specs.declared.units.Units.{Units}
use Rattle.pgo_mpcal_read.specs.Elements.{Spot, at, word, numeral, placed, Ended, IsName, IsExpression, most_depth, Items, InBrackets, Row}
use Rattle.pgo_mpcal_read.specs.Statements.{IsOrigin, IsBody}
use Rattle.pgo_mpcal_read.specs.Depths.{labeled_depth}

-- ---- definitions and declarations

-- `name == e` and `name(names) == e`
pub data IsDefinition : List Lexeme → Definition → Type 0 where
  without_params : {n d : Spot} {x : Name} {ts : List Lexeme} {e : Tree} → IsExpression ts e
      → IsDefinition (word n x ∷ (at d symbol.Defines ∷ ts)) (record { name = placed n x; params = []; body = e })
  with_params : {n o : Spot} (c d : Spot) {x : Name} {xs ts : List Lexeme} {ps : List PlacedName} {e : Tree} → Items IsName symbol.Comma xs ps → IsExpression ts e
      → IsDefinition (word n x ∷ (at o (symbol.Open bracket.Round) ∷ (xs ++ (at c (symbol.Close bracket.Round) ∷ (at d symbol.Defines ∷ ts))))) (record { name = placed n x; params = ps; body = e })

-- `name`, `name = e` and `name \in e`
pub data IsDeclaration : List Lexeme → Declaration → Type 0 where
  without_value : {n : Spot} {x : Name} → IsDeclaration (word n x ∷ []) (record { name = placed n x; initial = None })
  with_value : {n : Spot} {x : Name} {ts : List Lexeme} {o : Origin} → IsOrigin ts o → IsDeclaration (word n x ∷ ts) (record { name = placed n x; initial = Some o })

-- what stands between two declarations: a comma, or what ends one
pub data Parted (ts : List Lexeme) : List Lexeme → Type 0 where
  comma : {p : Spot} → Parted ts (at p symbol.Comma ∷ [])
  ended : {zs : List Lexeme} → Ended ts zs → Parted ts zs

-- `decls ;`
pub data IsDeclarations : List Lexeme → List Declaration → Type 0 where
  last_declaration : {xs zs : List Lexeme} {d : Declaration} → IsDeclaration xs d → Ended xs zs → IsDeclarations (xs ++ zs) (d ∷ [])
  declaration : {xs ys zs : List Lexeme} {d : Declaration} {ds : List Declaration} → IsDeclaration xs d → Parted xs zs → IsDeclarations ys ds → IsDeclarations (xs ++ (zs ++ ys)) (d ∷ ds)

-- `variables decls ;`
pub data IsVariables : List Lexeme → List Declaration → Type 0 where
  variables : {p : Spot} {xs : List Lexeme} {ds : List Declaration} → IsDeclarations xs ds → IsVariables (at p (symbol.Keyword keyword.Variables) ∷ xs) ds

-- ---- parameters, arguments and mapping clauses

-- nothing, or `[_]`
pub data IsExtent : List Lexeme → Extent → Type 0 where
  whole : IsExtent [] extent.Whole
  element : {o u c : Spot} → IsExtent (at o (symbol.Open bracket.Square) ∷ (at u symbol.Underscore ∷ (at c (symbol.Close bracket.Square) ∷ []))) extent.Element

pub data IsParameter : List Lexeme → Parameter → Type 0 where
  value_parameter : {n : Spot} {x : Name} → IsParameter (word n x ∷ []) (record { name = placed n x; kind = parameter.Value })
  ref_parameter : {p n : Spot} {x : Name} {ts : List Lexeme} {m : Extent} → IsExtent ts m
      → IsParameter (at p (symbol.Keyword keyword.Ref) ∷ (word n x ∷ ts)) (record { name = placed n x; kind = parameter.Ref m })

pub data IsArgument : List Lexeme → Argument → Type 0 where
  value_argument : {l : Lexeme} {ts : List Lexeme} {e : Tree} → IsExpression (l ∷ ts) e → IsArgument (l ∷ ts) (argument.Value l.start e)
  ref_argument : {p n : Spot} {x : Name} {ts : List Lexeme} {m : Extent} → IsExtent ts m
      → IsArgument (at p (symbol.Keyword keyword.Ref) ∷ (word n x ∷ ts)) (argument.Ref (placed n x) m)

-- a global by its name, or an argument by its number
pub data IsTarget : List Lexeme → MappingTarget → Type 0 where
  by_name : {n : Spot} {x : Name} {ts : List Lexeme} {m : Extent} → IsExtent ts m → IsTarget (word n x ∷ ts) (target.Global (placed n x) m)
  by_number : {p q : Spot} {k : ℕ} {ts : List Lexeme} {m : Extent} → IsExtent ts m → IsTarget (at p symbol.At ∷ (numeral q k ∷ ts)) (target.Argument p.start k m)

-- `mapping target via name`
pub data IsClause : List Lexeme → MappingClause → Type 0 where
  clause : {p : Spot} (v n : Spot) {x : Name} {xs : List Lexeme} {g : MappingTarget} → IsTarget xs g
      → IsClause (at p (symbol.Keyword keyword.Mapping) ∷ (xs ++ (at v (symbol.Keyword keyword.Via) ∷ (word n x ∷ [])))) (record { target = g; mapping = placed n x })

-- ---- units

pub data IsMacro : List Lexeme → Macro → Type 0 where
  macro_of : {p n : Spot} {x : Name} {xs ys : List Lexeme} {ps : List PlacedName} {rs : List (Option PlacedName × Statement)} → InBrackets IsName xs ps → IsBody ys rs
      → IsMacro (at p (symbol.Keyword keyword.Macro) ∷ (word n x ∷ (xs ++ ys))) (record { name = placed n x; params = ps; body = rs })

pub data IsMappingMacro : List Lexeme → MappingMacro → Type 0 where
  mapping_macro_of : {p q n o r : Spot} (w c : Spot) {x : Name} {xs ys : List Lexeme} {rs ws : List (Option PlacedName × Statement)} → IsBody xs rs → IsBody ys ws
      → IsMappingMacro (at p (symbol.Keyword keyword.Mapping) ∷ (at q (symbol.Keyword keyword.Macro) ∷ (word n x ∷ (at o (symbol.Open bracket.Curly) ∷ (at r (symbol.Keyword keyword.Read) ∷ (xs ++ (at w (symbol.Keyword keyword.Write) ∷ (ys ++ (at c (symbol.Close bracket.Curly) ∷ []))))))))) (record { name = placed n x; read = rs; write = ws })

-- the variables of an archetype, if it has some
pub data IsLocals : List Lexeme → List Declaration → Type 0 where
  no_locals : IsLocals [] []
  locals : {xs : List Lexeme} {ds : List Declaration} → IsVariables xs ds → IsLocals xs ds

pub data IsArchetype : List Lexeme → Archetype → Type 0 where
  archetype_of : {p n : Spot} {x : Name} {xs ys zs : List Lexeme} {ps : List Parameter} {ds : List Declaration} {rs : List (Option PlacedName × Statement)}
      → InBrackets IsParameter xs ps → IsLocals ys ds → IsBody zs rs
      → IsArchetype (at p (symbol.Keyword keyword.Archetype) ∷ (word n x ∷ (xs ++ (ys ++ zs)))) (record { name = placed n x; params = ps; locals = ds; body = rs })

-- `fair` and `fair+`, which are dropped
pub data IsFair : List Lexeme → Type 0 where
  unfair : IsFair []
  weakly : {p : Spot} → IsFair (at p (symbol.Keyword keyword.Fair) ∷ [])
  strongly : {p q : Spot} → IsFair (at p (symbol.Keyword keyword.Fair) ∷ (at q (symbol.Infix operator.Add) ∷ []))

-- the `;` behind a process, which may be left out
pub data IsClosing : List Lexeme → Type 0 where
  left_out : IsClosing []
  semicolon : {p : Spot} → IsClosing (at p symbol.Semicolon ∷ [])

pub data IsProcess : List Lexeme → Process → Type 0 where
  instance_of : (p a n b d i m : Spot) {x y : Name} {fs os vs cs zs : List Lexeme} {o : Origin} {as' : List Argument} {ms : List MappingClause}
      → IsFair fs → IsOrigin os o → InBrackets IsArgument vs as' → Row IsClause cs ms → IsClosing zs
      → IsProcess (fs ++ (at p (symbol.Keyword keyword.Process) ∷ (at a (symbol.Open bracket.Round) ∷ (word n x ∷ (os ++ (at b (symbol.Close bracket.Round) ∷ (at d symbol.Defines ∷ (at i (symbol.Keyword keyword.Instance) ∷ (word m y ∷ (vs ++ (cs ++ zs)))))))))))
      (record { name = placed n x; ids = o; archetype = placed m y; arguments = as'; clauses = ms })

-- `yield`, `$variable` and `$value` stand in mapping macros alone
abbrev pub is_plain : Token → Bool
is_plain k = not (is_sign (symbol.Keyword keyword.Yield) k) && (not (is_sign symbol.Variable k) && not (is_sign symbol.Value k))

-- and a macro has no `while` and no `goto`
abbrev pub may_stand_in_macro : Token → Bool
may_stand_in_macro k = is_plain k && (not (is_sign (symbol.Keyword keyword.While) k) && not (is_sign (symbol.Keyword keyword.Goto) k))

abbrev pub all_are : (Token → Bool) → List Lexeme → Bool
all_are f [] = true
all_are f (l ∷ ls) = f l.token && all_are f ls

-- `define { definitions }`
pub data IsDefine : List Lexeme → List Definition → Type 0 where
  definitions : {p o : Spot} (c : Spot) {xs : List Lexeme} {ds : List Definition} → Row IsDefinition xs ds
      → IsDefine (at p (symbol.Keyword keyword.Define) ∷ (at o (symbol.Open bracket.Curly) ∷ (xs ++ (at c (symbol.Close bracket.Curly) ∷ [])))) ds

-- one unit, and what there is of each kind before it and behind it. No statement is deeper than the limit.
pub data IsUnit (b : Units) : List Lexeme → Units → Type 0 where
  define : {xs : List Lexeme} {ds : List Definition} → b.define ≡ None → IsDefine xs ds → all_are is_plain xs ≡ true → IsUnit b xs (record b { define = Some ds })
  macro_definition : {xs : List Lexeme} {m : Macro} → IsMacro xs m → all_are may_stand_in_macro xs ≡ true → labeled_depth b.depths (labeled m.body) ≤ most_depth
      → IsUnit b xs (record b { macros = b.macros ++ m ∷ []; depths = b.depths ++ record { name = m.name.name; depth = labeled_depth b.depths (labeled m.body) } ∷ [] })
  mapping : {xs : List Lexeme} {m : MappingMacro} → IsMappingMacro xs m → labeled_depth b.depths (labeled m.read) ≤ most_depth → labeled_depth b.depths (labeled m.write) ≤ most_depth
      → IsUnit b xs (record b { mappings = b.mappings ++ m ∷ [] })
  archetype : {xs : List Lexeme} {a : Archetype} → IsArchetype xs a → all_are is_plain xs ≡ true → labeled_depth b.depths (labeled a.body) ≤ most_depth
      → IsUnit b xs (record b { archetypes = b.archetypes ++ a ∷ [] })
  globals : {xs : List Lexeme} {ds : List Declaration} → b.globals ≡ None → IsVariables xs ds → all_are is_plain xs ≡ true → IsUnit b xs (record b { globals = Some ds })
  process : {xs : List Lexeme} {q : Process} → IsProcess xs q → all_are is_plain xs ≡ true → IsUnit b xs (record b { processes = b.processes ++ q ∷ [] })

abbrev pub no_units : Units
no_units = record { define = None; macros = []; depths = []; mappings = []; archetypes = []; globals = None; processes = [] }

-- units in any order
pub data AreUnits : List Lexeme → Units → Type 0 where
  no_unit : AreUnits [] no_units
  unit : {xs ys : List Lexeme} {a b : Units} → AreUnits xs b → IsUnit b ys a → AreUnits (xs ++ ys) a
