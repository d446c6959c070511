use Rattle.std.proofs.Common.{ap, sym, ◌∙◌}
use Rattle.pgo_expr_read.specs.Signs.{is_sign}
use Rattle.pgo_expr_read.proofs.Signs.{derived_symbol}
use Rattle.pgo_expr_read.proofs.sign.is_sign.Goals as goal

pub returns-in-Symbol : goal.returns-in-Symbol
returns-in-Symbol c = c.eq.ensures ∙ derived_symbol c.in-Symbol.symbol c.args.sign ∙ ap (is_sign c.args.sign) (sym c.in-Symbol.is)
