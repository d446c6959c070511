use Rattle.std.proofs.Common.{◌≡◌, ◌++◌, map, drop}
use Rattle.pgo_base.specs.ExprView.{tree}
use Rattle.pgo_base.specs.Tree.{trees}
use Rattle.pgo_rewrite.specs.Rebuilt as spec
use Rattle.pgo_rewrite.proofs.rebuild.fill_exprs.Given as goal

abbrev pub invariant-loop-item : goal.invariant-loop-item
invariant-loop-item l =
    (l.all ++ spec.fill_trees (trees (map tree (drop l._item-index l._item-items))) l.parts ≡ spec.fill_trees (trees l.list) l.initial.parts)
    × (spec.behind_trees (trees (map tree (drop l._item-index l._item-items))) l.parts ≡ spec.behind_trees (trees l.list) l.initial.parts)
