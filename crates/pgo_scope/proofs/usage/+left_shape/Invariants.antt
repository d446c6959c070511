use Rattle.pgo_base.specs.ExprView.{tree}
use Rattle.pgo_base.specs.TreeSize.{height}
use Rattle.pgo_scope.proofs.usage.+left_shape.Given as goal

abbrev pub decreases-left_shape : goal.decreases-left_shape
decreases-left_shape l = height (tree l.e.now)
