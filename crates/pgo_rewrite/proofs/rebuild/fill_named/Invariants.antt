use Rattle.std.proofs.Common.{◌≡◌, ◌++◌, map, drop}
use Rattle.pgo_base.specs.ExprView.{named_tree}
use Rattle.pgo_base.specs.Tree.{named}
use Rattle.pgo_rewrite.specs.Rebuilt as spec
use Rattle.pgo_rewrite.proofs.rebuild.fill_named.Given as goal

abbrev pub invariant-loop-item : goal.invariant-loop-item
invariant-loop-item l =
    (l.all ++ spec.fill_named (named (map named_tree (drop l.item-index l.item-items))) l.parts ≡ spec.fill_named (named l.list) l.initial.parts)
    × (spec.behind_named (named (map named_tree (drop l.item-index l.item-items))) l.parts ≡ spec.behind_named (named l.list) l.initial.parts)
