-- Whether one mentions the name is decided by what is left; each call is about less high expressions.
use Rattle.std.proofs.Common.{◌≡◌, ◌+◌, ◌*◌, drop}
use Rattle.std.specs.List.{list_any}
use Rattle.pgo_base.specs.ExprView.{tree}
use Rattle.pgo_base.specs.TreeSize.{height}
use Rattle.pgo_operands.specs.Operands.{lent_trees}
use Rattle.pgo_operands.specs.Mentions as spec
use Rattle.pgo_operands.proofs.Heights.{highest}
use Rattle.pgo_operands.proofs.mentions.+mentions.Given as goal

abbrev pub decreases-mentions : goal.decreases-mentions
decreases-mentions l = 2 * height (tree l.e.now)

abbrev pub decreases-any_mentions : goal.decreases-any_mentions
decreases-any_mentions l = 2 * highest (lent_trees l.list.now) + 1

abbrev pub invariant-any_mentions-loop-one : goal.invariant-any_mentions-loop-one
invariant-any_mentions-loop-one l = list_any (spec.mentions l.name) (lent_trees (drop l.one-index l.list)) ≡ list_any (spec.mentions l.name) (lent_trees l.list)
