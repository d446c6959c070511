-- What a text of its own spells, by what was read of it.
use Rattle.std.proofs.Common.{◌≡◌, ℕ, Bool, true, false, not, cond, List, Option, None, Result, Ok, Err, IsErrAnd, refl, sym, subst}
use Rattle.pgo_base.specs.Tree.{Tree}
use Rattle.pgo_base.specs.declared.expr.Expr.{Expr}
use Rattle.pgo_base.specs.ExprView.{tree}
use Rattle.pgo_lexer.specs.declared.token.Token.{Token}
use Rattle.pgo_lexer.specs.declared.errors.TextStop.{TextStop}
use Rattle.pgo_lexer.specs.declared.errors.TextStop.TheVariants.{Syntax, NoMemory}
use Rattle.pgo_lexer.specs.Answers.{IsSyntax}
use Rattle.pgo_expr_read.specs.Lookahead.{has_mapped}
use Rattle.pgo_expr_read.specs.Reading.{MakesAs, all, all_plain}
use Rattle.pgo_expr_read.specs.Stops.{IsKeptIf}

refusal_makes : (o : Option Tree) (r : Result Expr TextStop) → o ≡ None → IsErrAnd r IsSyntax → MakesAs tree o r
refusal_makes o (Ok e) none is = absurd is
refusal_makes o (Err (Syntax n)) none is = none
refusal_makes o (Err NoMemory) none is = absurd is

kept_makes : (mapped : Bool) (o : Option Tree) (read r : Result Expr TextStop) → MakesAs tree o read → IsKeptIf read (not mapped) r → MakesAs tree (cond mapped None o) r
kept_makes false o (Ok e) r made kept = let P : Result Expr TextStop → Type 0 = λ x. MakesAs tree o x in subst P (sym kept) made
kept_makes true o (Ok e) r made kept = refusal_makes None r refl kept
kept_makes false o (Err (Syntax n)) r made kept = refusal_makes o r made kept
kept_makes true o (Err (Syntax n)) r made kept = refusal_makes None r refl kept
kept_makes mapped o (Err NoMemory) r made kept = let P : Result Expr TextStop → Type 0 = λ x. MakesAs tree (cond mapped None o) x in subst P (sym kept) tt

pub plain_makes : (limit : ℕ) (ts : List Token) (read r : Result Expr TextStop) → MakesAs tree (all limit ts) read → IsKeptIf read (not (has_mapped ts)) r → MakesAs tree (all_plain limit ts) r
plain_makes limit ts read r made kept = kept_makes (has_mapped ts) (all limit ts) read r made kept
