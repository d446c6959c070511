use Rattle.std.proofs.Common.{◌+◌, ◌∙◌, drop, sym}
use Rattle.pgo_lower.proofs.GlobalLaws.{row_law}
use Rattle.pgo_lower.proofs.Behind.{drop_step}
use Rattle.pgo_lower.proofs.globals.Globals.get.Goals as goal

pub returns-then-is : goal.returns-then-is
returns-then-is c =
    let rows = c.deref-row-items.result.now in
    row_law c.args.self.now.bound.now (drop c.loop-row.row-index rows) (drop (c.loop-row.row-index + 1) rows) c.row-item.result c.args.g.now
    c.loop-row.invariant (drop_step rows c.loop-row.row-index c.row-item.result c.loop-row-test.true c.row-item.is) (sym c.is.ensures ∙ c.if-is.true)
