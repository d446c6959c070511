-- How expressions begin.
use Rattle.std.proofs.Common.{◌≡◌, ◌≤◌, true, false, List, [], ◌∷◌, ◌++◌, length, refl, ap, ◌∙◌, arith}
use Rattle.pgo_base.specs.declared.expr.Infix.TheVariants as operator
use Rattle.pgo_base.specs.declared.expr.Word.TheVariants as w
use Rattle.pgo_base.specs.Tree.{Tree}
use Rattle.pgo_lexer.specs.declared.symbol.Bracket.TheVariants as bracket
use Rattle.pgo_lexer.specs.declared.symbol.Symbol.TheVariants as symbol
use Rattle.pgo_lexer.specs.declared.token.Lexeme.{Lexeme}
use Rattle.pgo_lexer.specs.declared.token.Token.{Token}
use Rattle.pgo_lexer.specs.declared.token.Token.TheVariants as t
use Rattle.pgo_expr_read.specs.Lookahead.{tokens_of}
use Rattle.pgo_expr_read.specs.Signs.{is_sign}
use Rattle.pgo_expr_read.proofs.Heads.{Starts, starts}
use Rattle.pgo_expr_read.proofs.Heads as heads
use Rattle.pgo_lexer.specs.declared.symbol.Keyword.TheVariants as keyword
use Rattle.pgo_mpcal_read.specs.Signs.{sees}
use Rattle.pgo_mpcal_read.specs.Elements.{IsExpression}

-- what a token that begins an expression is not
record Facts (k : Token) : Type 0 where
  close : is_sign (symbol.Close bracket.Round) k ≡ false
  by_ref : is_sign (symbol.Keyword keyword.Ref) k ≡ false

facts : (k : Token) → heads.begins k ≡ true → Facts k
facts (t.Number n) h = record { close = refl; by_ref = refl }
facts (t.Text x) h = record { close = refl; by_ref = refl }
facts (t.ListOpen op) h = record { close = refl; by_ref = refl }
facts (t.Symbol (symbol.Truth v)) h = record { close = refl; by_ref = refl }
facts (t.Symbol symbol.At) h = record { close = refl; by_ref = refl }
facts (t.Symbol (symbol.Word w.BooleanSet)) h = record { close = refl; by_ref = refl }
facts (t.Symbol (symbol.Infix operator.Subtract)) h = record { close = refl; by_ref = refl }
facts (t.Symbol (symbol.Prefix p)) h = record { close = refl; by_ref = refl }
facts (t.Symbol (symbol.Open bracket.Round)) h = record { close = refl; by_ref = refl }
facts (t.Symbol (symbol.Open bracket.Square)) h = record { close = refl; by_ref = refl }
facts (t.Symbol (symbol.Open bracket.Curly)) h = record { close = refl; by_ref = refl }
facts (t.Symbol (symbol.Open bracket.Angle)) h = record { close = refl; by_ref = refl }
facts (t.Symbol (symbol.Quantifier v)) h = record { close = refl; by_ref = refl }
facts (t.Symbol symbol.Choose) h = record { close = refl; by_ref = refl }
facts (t.Symbol symbol.If) h = record { close = refl; by_ref = refl }
facts (t.Symbol symbol.Case) h = record { close = refl; by_ref = refl }
facts (t.Symbol symbol.Let) h = record { close = refl; by_ref = refl }
facts (t.Symbol symbol.Unchanged) h = record { close = refl; by_ref = refl }
facts (t.Symbol symbol.Variable) h = record { close = refl; by_ref = refl }
facts (t.Symbol symbol.Value) h = record { close = refl; by_ref = refl }
facts _ h = cc

pub record Begins (xs : List Lexeme) : Type 0 where
  pub full : 1 ≤ length xs
  pub no_close : (j : List Lexeme) → sees (symbol.Close bracket.Round) (xs ++ j) ≡ false
  pub no_ref : (j : List Lexeme) → sees (symbol.Keyword keyword.Ref) (xs ++ j) ≡ false

of_token : (l : Lexeme) (xs : List Lexeme) (k : Token) → l.token ≡ k → Facts k → Begins (l ∷ xs)
of_token l xs k e f = record { full = omega arith; no_close = λ j. ap (is_sign (symbol.Close bracket.Round)) e ∙ f.close; no_ref = λ j. ap (is_sign (symbol.Keyword keyword.Ref)) e ∙ f.by_ref }

begins_by : (xs : List Lexeme) (ts : List Token) → tokens_of xs ≡ ts → Starts ts → Begins xs
begins_by [] ts e (heads.alone {x = x}) = cc
begins_by [] ts e (heads.longer h) = cc
begins_by [] ts e (heads.other h) = cc
begins_by (l ∷ xs) ts e (heads.alone {x = x}) = let q : l.token ≡ t.Name x = cc in of_token l xs (t.Name x) q (record { close = refl; by_ref = refl })
begins_by (l ∷ xs) ts e (heads.longer {x = x} h) = let q : l.token ≡ t.Name x = cc in of_token l xs (t.Name x) q (record { close = refl; by_ref = refl })
begins_by (l ∷ xs) ts e (heads.other {k = k} h) = let q : l.token ≡ k = cc in of_token l xs k q (facts k h)

pub begins : (xs : List Lexeme) (a : Tree) → IsExpression xs a → Begins xs
begins xs a d = begins_by xs (tokens_of xs) refl (let k = d.spells in starts k.2)
