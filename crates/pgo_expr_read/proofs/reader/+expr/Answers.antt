use Rattle.std.proofs.Common.{◌≡◌, ap, arith}
use Rattle.pgo_expr_read.specs.Reading.{expr}
use Rattle.pgo_expr_read.proofs.Steps.{syntax_err}
use Rattle.pgo_expr_read.proofs.Turns.{reads_level}
use Rattle.pgo_expr_read.proofs.reader.+expr.Goals as goal

pub returns-then-limit-eq0 : goal.returns-then-limit-eq0
unfolding expr
returns-then-limit-eq0 t c =
    let none : c.args.limit ≡ 0 = omega arith in
    syntax_err _ _ c.refuse.result c.refuse.ensures (ap (λ n. expr n c.args.least c.args.cursor.now) none)

pub returns : goal.returns
returns t c = reads_level c.args.limit c.args.least _ _ _ (omega arith) c.level.ensures
