use Rattle.std.proofs.Common.{true, false, ap, ◌∙◌}
use Rattle.pgo_uses.specs.Names.{has_row}
use Rattle.pgo_measure.proofs.RowLaws.{height_by}
use Rattle.pgo_measure.proofs.heights.height_of_assignment.Goals as goal

pub returns-then-has : goal.returns-then-has
returns-then-has c gs e = height_by gs c.args.x.now true (c.if-has.ensures ∙ ap (has_row c.args.x.now) e)

pub returns-else-has : goal.returns-else-has
returns-else-has c gs e = height_by gs c.args.x.now false (c.if-has.ensures ∙ ap (has_row c.args.x.now) e)
