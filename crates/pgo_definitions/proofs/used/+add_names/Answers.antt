use Rattle.std.proofs.Common.{◌<◌, ◌≤◌, arith}
use Rattle.pgo_base.specs.ExprView.{tree}
use Rattle.pgo_base.specs.TreeSize.{height}
use Rattle.pgo_operands.specs.Operands.{lent_trees}
use Rattle.pgo_operands.proofs.Heights.{highest, operands_low, one_low}
use Rattle.pgo_definitions.proofs.used.+add_names.Goals as goal

pub add_names-requires : goal.add_names-requires
add_names-requires t c =
    let low : highest (lent_trees c.as_slice-part-items.result.now) < height (tree c.args.e.now) = operands_low _ _ _ c.as_slice-part-items.ensures.value c.in_ok-parts.ensures in
    let at : height (tree c.part-item.result.now) ≤ highest (lent_trees c.as_slice-part-items.result.now) = one_low _ _ _ (omega arith) c.part-item.is in
    (omega arith, tt)
