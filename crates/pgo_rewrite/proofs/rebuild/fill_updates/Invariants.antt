use Rattle.std.proofs.Common.{◌≡◌, ◌++◌, map, drop}
use Rattle.pgo_base.specs.ExprView.{path_tree}
use Rattle.pgo_base.specs.Tree.{paths}
use Rattle.pgo_rewrite.specs.Rebuilt as spec
use Rattle.pgo_rewrite.proofs.rebuild.fill_updates.Given as goal

abbrev pub invariant-loop-item : goal.invariant-loop-item
invariant-loop-item l =
    (l.all ++ spec.fill_paths (paths (map path_tree (drop l.item-index l.item-items))) l.parts ≡ spec.fill_paths (paths l.list) l.initial.parts)
    × (spec.behind_paths (paths (map path_tree (drop l.item-index l.item-items))) l.parts ≡ spec.behind_paths (paths l.list) l.initial.parts)
