use Rattle.std.proofs.Common.{◌≡◌, ◌++◌, map, drop}
use Rattle.pgo_base.specs.ExprView.{arm_tree}
use Rattle.pgo_base.specs.Tree.{arms}
use Rattle.pgo_rewrite.specs.Rebuilt as spec
use Rattle.pgo_rewrite.proofs.rebuild.fill_arms.Given as goal

abbrev pub invariant-loop-item : goal.invariant-loop-item
invariant-loop-item l =
    (l.all ++ spec.fill_arms (arms (map arm_tree (drop l._item-index l._item-items))) l.parts ≡ spec.fill_arms (arms l.list) l.initial.parts)
    × (spec.behind_arms (arms (map arm_tree (drop l._item-index l._item-items))) l.parts ≡ spec.behind_arms (arms l.list) l.initial.parts)
