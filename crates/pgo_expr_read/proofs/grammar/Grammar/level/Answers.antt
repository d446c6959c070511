use Rattle.std.proofs.Common.{◌<◌, arith, sym}
use Rattle.pgo_expr_read.specs.Reading.{expr}
use Rattle.pgo_expr_read.specs.Table.{prefix_least}
use Rattle.pgo_expr_read.proofs.Steps.{syntax_err}
use Rattle.pgo_expr_read.proofs.Levels.{low_prefix}
use Rattle.pgo_expr_read.proofs.grammar.Grammar.level.Goals as goal

pub returns-then-prefix_least-least : goal.returns-then-prefix_least-least
returns-then-prefix_least-least g c =
    let low : prefix_least c.in-Prefix.op < c.args.least = omega arith in
    syntax_err _ _ c.refuse-stop.result c.refuse-stop.ensures (low_prefix c.args.self.now.limit (expr c.args.self.now.below) c.args.least c.args.cursor.now c.in-Prefix.op (sym c.in-Prefix.ensures) low)
