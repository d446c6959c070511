-- The reserved words and the signs: how each is spelled.
use Rattle.std.specs.Prelude.{ℕ, Bool, true, false, not, ◌&&◌, List, [], ◌∷◌, codes}
use Rattle.pgo_base.specs.declared.expr.Infix.TheVariants as op
use Rattle.pgo_base.specs.declared.expr.Prefix.TheVariants as pre
use Rattle.pgo_base.specs.declared.expr.Quantifier.TheVariants as q
use Rattle.pgo_base.specs.declared.expr.Word.TheVariants as w
pub use Rattle.pgo_model.specs.ValueText.{is_beginning, find_bytes as find}
use Rattle.pgo_lexer.specs.declared.symbol.Symbol.{Symbol}
use Rattle.pgo_lexer.specs.declared.symbol.Symbol.TheVariants as s
use Rattle.pgo_lexer.specs.declared.symbol.Bracket.TheVariants as b
use Rattle.pgo_lexer.specs.declared.symbol.Keyword.TheVariants as k

-- a spelling, and what it spells
abbrev pub Row : Type 0
Row = List ℕ × Symbol

-- no row's spelling begins with these bytes
abbrev pub begins_no_row : List ℕ → List Row → Bool
begins_no_row x [] = true
begins_no_row x (r ∷ rs) = not (is_beginning x r.0) && begins_no_row x rs

-- the reserved words, in the order of `reserved_words`
abbrev pub reserved : List Row
reserved =
    (codes "TRUE", s.Truth true)
    ∷ (codes "FALSE", s.Truth false)
    ∷ (codes "BOOLEAN", s.Word w.BooleanSet)
    ∷ (codes "STRING", s.Word w.StringSet)
    ∷ (codes "Nat", s.Word w.Nat)
    ∷ (codes "Int", s.Word w.Int)
    ∷ (codes "SUBSET", s.Prefix pre.Powerset)
    ∷ (codes "UNION", s.Prefix pre.Flatten)
    ∷ (codes "DOMAIN", s.Prefix pre.Domain)
    ∷ (codes "EXCEPT", s.Except)
    ∷ (codes "UNCHANGED", s.Unchanged)
    ∷ (codes "CHOOSE", s.Choose)
    ∷ (codes "IF", s.If)
    ∷ (codes "THEN", s.Then)
    ∷ (codes "ELSE", s.Else)
    ∷ (codes "CASE", s.Case)
    ∷ (codes "OTHER", s.Other)
    ∷ (codes "LET", s.Let)
    ∷ (codes "IN", s.LetIn)
    ∷ (codes "define", s.Keyword k.Define)
    ∷ (codes "macro", s.Keyword k.Macro)
    ∷ (codes "mapping", s.Keyword k.Mapping)
    ∷ (codes "read", s.Keyword k.Read)
    ∷ (codes "write", s.Keyword k.Write)
    ∷ (codes "archetype", s.Keyword k.Archetype)
    ∷ (codes "variable", s.Keyword k.Variables)
    ∷ (codes "variables", s.Keyword k.Variables)
    ∷ (codes "fair", s.Keyword k.Fair)
    ∷ (codes "process", s.Keyword k.Process)
    ∷ (codes "instance", s.Keyword k.Instance)
    ∷ (codes "ref", s.Keyword k.Ref)
    ∷ (codes "via", s.Keyword k.Via)
    ∷ (codes "skip", s.Keyword k.Skip)
    ∷ (codes "if", s.Keyword k.If)
    ∷ (codes "else", s.Keyword k.Else)
    ∷ (codes "while", s.Keyword k.While)
    ∷ (codes "either", s.Keyword k.Either)
    ∷ (codes "or", s.Keyword k.Or)
    ∷ (codes "await", s.Keyword k.Await)
    ∷ (codes "when", s.Keyword k.When)
    ∷ (codes "with", s.Keyword k.With)
    ∷ (codes "print", s.Keyword k.Print)
    ∷ (codes "assert", s.Keyword k.Assert)
    ∷ (codes "goto", s.Keyword k.Goto)
    ∷ (codes "yield", s.Keyword k.Yield) ∷ []

-- the signs
abbrev pub signs : List Row
signs =
    (codes "|->", s.MapsTo)
    ∷ (codes "<=>", s.Infix op.Iff)
    ∷ (codes "/\\", s.Infix op.And)
    ∷ (codes "\\/", s.Infix op.Or)
    ∷ (codes "=>", s.Infix op.Implies)
    ∷ (codes "=<", s.Infix op.AtMost)
    ∷ (codes "<=", s.Infix op.AtMost)
    ∷ (codes ">=", s.Infix op.AtLeast)
    ∷ (codes "/=", s.Infix op.Differs)
    ∷ (codes "@@", s.Infix op.Merge)
    ∷ (codes ":>", s.Infix op.Single)
    ∷ (codes "..", s.Infix op.Range)
    ∷ (codes "<<", s.Open b.Angle)
    ∷ (codes ">>", s.Close b.Angle)
    ∷ (codes "->", s.Arrow)
    ∷ (codes "==", s.Defines)
    ∷ (codes ":=", s.Assign)
    ∷ (codes "[]", s.Box)
    ∷ (codes "||", s.Bars)
    ∷ (codes "=", s.Infix op.Equal)
    ∷ (codes "#", s.Infix op.Differs)
    ∷ (codes "<", s.Infix op.Less)
    ∷ (codes ">", s.Infix op.Greater)
    ∷ (codes "\\", s.Infix op.Without)
    ∷ (codes "+", s.Infix op.Add)
    ∷ (codes "-", s.Infix op.Subtract)
    ∷ (codes "%", s.Infix op.Modulo)
    ∷ (codes "*", s.Infix op.Multiply)
    ∷ (codes "~", s.Prefix pre.Not)
    ∷ (codes "'", s.Prime)
    ∷ (codes "@", s.At)
    ∷ (codes "(", s.Open b.Round)
    ∷ (codes ")", s.Close b.Round)
    ∷ (codes "[", s.Open b.Square)
    ∷ (codes "]", s.Close b.Square)
    ∷ (codes "{", s.Open b.Curly)
    ∷ (codes "}", s.Close b.Curly)
    ∷ (codes ",", s.Comma)
    ∷ (codes ":", s.Colon)
    ∷ (codes ";", s.Semicolon)
    ∷ (codes ".", s.Dot)
    ∷ (codes "!", s.Bang) ∷ []

-- the words behind a backslash
abbrev pub slash_words : List Row
slash_words =
    (codes "in", s.Infix op.In)
    ∷ (codes "notin", s.Infix op.NotIn)
    ∷ (codes "subseteq", s.Infix op.SubsetEq)
    ∷ (codes "cup", s.Infix op.Union)
    ∷ (codes "union", s.Infix op.Union)
    ∷ (codes "cap", s.Infix op.Intersect)
    ∷ (codes "intersect", s.Infix op.Intersect)
    ∷ (codes "o", s.Infix op.Concat)
    ∷ (codes "circ", s.Infix op.Concat)
    ∷ (codes "div", s.Infix op.Divide)
    ∷ (codes "X", s.Product)
    ∷ (codes "E", s.Quantifier q.Exists)
    ∷ (codes "A", s.Quantifier q.Forall)
    ∷ (codes "leq", s.Infix op.AtMost)
    ∷ (codes "geq", s.Infix op.AtLeast)
    ∷ (codes "land", s.Infix op.And)
    ∷ (codes "lor", s.Infix op.Or)
    ∷ (codes "lnot", s.Prefix pre.Not)
    ∷ (codes "neg", s.Prefix pre.Not) ∷ []

-- the words behind a `$`
abbrev pub dollar_words : List Row
dollar_words =
    (codes "variable", s.Variable)
    ∷ (codes "value", s.Value) ∷ []
