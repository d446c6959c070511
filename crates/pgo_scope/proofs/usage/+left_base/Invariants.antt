use Rattle.pgo_base.specs.ExprView.{tree}
use Rattle.pgo_base.specs.TreeSize.{height}
use Rattle.pgo_scope.proofs.usage.+left_base.Given as goal

abbrev pub decreases-left_base : goal.decreases-left_base
decreases-left_base l = height (tree l.e.now)
