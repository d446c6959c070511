use Rattle.pgo_base.specs.ExprView.{tree}
use Rattle.pgo_base.specs.TreeSize.{height}
use Rattle.pgo_scope.proofs.macro_table.+add_left_uses.Given as goal

abbrev pub decreases-add_left_uses : goal.decreases-add_left_uses
decreases-add_left_uses l = height (tree l.e.now)
