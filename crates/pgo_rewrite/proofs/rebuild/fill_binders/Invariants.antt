use Rattle.std.proofs.Common.{◌≡◌, ◌++◌, map, drop}
use Rattle.pgo_base.specs.ExprView.{bound_tree}
use Rattle.pgo_base.specs.Tree.{bound}
use Rattle.pgo_rewrite.specs.Rebuilt as spec
use Rattle.pgo_rewrite.proofs.rebuild.fill_binders.Given as goal

abbrev pub invariant-loop-item : goal.invariant-loop-item
invariant-loop-item l =
    (l.all ++ spec.fill_bound (bound (map bound_tree (drop l.item-index l.item-items))) l.parts ≡ spec.fill_bound (bound l.list) l.initial.parts)
    × (spec.behind_bound (bound (map bound_tree (drop l.item-index l.item-items))) l.parts ≡ spec.behind_bound (bound l.list) l.initial.parts)
