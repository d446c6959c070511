-- A prefix operator below the level begins no expression of the level.
use Rattle.std.proofs.Common.{◌≡◌, ℕ, zero, suc, ◌<◌, Bool, true, false, if◌then◌else◌, nat_lt, List, [], ◌∷◌, length, Some, None, refl, ap, ◌∙◌}
use Rattle.std.proofs.lemmas.Bool.{lt-leb}
use Rattle.pgo_base.specs.declared.expr.Prefix.{Prefix}
use Rattle.pgo_base.specs.Tree.{Tree}
use Rattle.pgo_base.specs.Tree as e
use Rattle.pgo_lexer.specs.declared.symbol.Bracket.TheVariants as b
use Rattle.pgo_lexer.specs.declared.symbol.Symbol.TheVariants as y
use Rattle.pgo_lexer.specs.declared.token.Token.{Token}
use Rattle.pgo_lexer.specs.declared.token.Token.TheVariants as t
use Rattle.pgo_expr_read.specs.declared.table.Form.TheVariants as form
use Rattle.pgo_expr_read.specs.declared.lookahead.PrimaryForm.TheVariants as primaries
use Rattle.pgo_expr_read.specs.declared.lookahead.Opener.{Opener}
use Rattle.pgo_expr_read.specs.declared.read.Ending.{Ending}
use Rattle.pgo_expr_read.specs.declared.read.Read.{Read}
use Rattle.pgo_expr_read.specs.Lookahead.{begin, opens}
use Rattle.pgo_expr_read.specs.Table.{prefix_least}
use Rattle.pgo_expr_read.specs.Reading.{Parser, Outcome, and_then, ◌>>=◌, give_at, raised, made, skip, on_opener, openers, prefixed, primary, primary_by, all_more, closes, from_least, level}

opens_nothing : (i : List Token) (p : Prefix) → begin i ≡ primaries.Prefix p → opens i ≡ None
opens_nothing [] p h = refl
opens_nothing (t.ListOpen op ∷ rest) p h = cc
opens_nothing (t.Symbol (y.Open b.Round) ∷ rest) p h = cc
opens_nothing _ p h = refl

no_openers : (turns : ℕ) (i : List Token) → opens i ≡ None → openers turns [] i ≡ Some ([], i)
unfolding openers
no_openers zero i h = refl
no_openers (suc n) i h = ap (λ o. on_opener o (λ x. openers n (x ∷ []) (skip i)) (Some ([], i))) h

module _ (limit : ℕ) (ex : ℕ → Parser (Read Tree)) (least : ℕ) where
  abbrev behind : List Opener → Read Tree → Parser (Read Tree)
  behind os first = closes limit ex os first >>= from_least limit ex least

  -- the application is below the level, whatever its operand is
  low_by : (fits : Bool) (p : Prefix) (o : Ending) (h : ℕ) (a : Tree) (j : List Token) → prefix_least p < least → and_then (give_at (if fits then Some (made (form.Prefix p) o h a) else None) j) (behind []) ≡ None
  unfolding closes
  low_by true p o h a j low = ap (λ z. (if z then all_more limit ex least (made (form.Prefix p) o h a) else (λ i. None)) j) (lt-leb least (prefix_least p) low)
  low_by false p o h a j low = refl

  low_application : (p : Prefix) (operand : Outcome (Read Tree)) → prefix_least p < least → and_then (and_then operand (λ r. give_at (raised limit (form.Prefix p) r.ending r.height (e.unary p r.tree)))) (behind []) ≡ None
  unfolding raised
  low_application p (Some q) low = low_by (nat_lt q.0.height limit) p q.0.ending _ (e.unary p q.0.tree) q.1 low
  low_application p None low = refl

  pub low_prefix : (i : List Token) (p : Prefix) → begin i ≡ primaries.Prefix p → prefix_least p < least → level limit ex least i ≡ None
  unfolding level primary prefixed
  low_prefix i p h low =
      ap (λ o. and_then o (λ os. primary limit ex >>= behind os)) (no_openers (length i) i (opens_nothing i p h))
      ∙ ap (λ l. and_then (primary_by limit ex l i) (behind [])) h
      ∙ low_application p (ex (prefix_least p) (skip i)) low
