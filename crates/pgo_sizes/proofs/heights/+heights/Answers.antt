use Rattle.std.proofs.Common.{ap, ◌∙◌, arith}
use Rattle.pgo_base.specs.ExprView.{tree}
use Rattle.pgo_operands.specs.Operands.{lent_trees}
use Rattle.pgo_sizes.proofs.HighestOf.{one_higher}
use Rattle.pgo_sizes.proofs.heights.+heights.Goals as goal

pub height_up_to-returns : goal.height_up_to-returns
height_up_to-returns t c =
    one_higher c.in_ok-inside.inside c.args.most (tree c.args.e.now) c.has_tuple.result (lent_trees c.as_slice.result.now) c.has_tuple.ensures
    (ap lent_trees c.as_slice.ensures.value ∙ c.in_ok-parts.ensures) c.in_ok-inside.ensures (omega arith)
