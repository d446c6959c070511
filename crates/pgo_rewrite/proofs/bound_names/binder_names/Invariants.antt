use Rattle.std.proofs.Common.{◌≡◌, ◌++◌, map, drop}
use Rattle.pgo_base.specs.ExprView.{bound_tree}
use Rattle.pgo_base.specs.Tree.{bound}
use Rattle.pgo_sections.specs.Bound.{names_bound}
use Rattle.pgo_rewrite.proofs.bound_names.binder_names.Given as goal

abbrev pub invariant-loop-item : goal.invariant-loop-item
invariant-loop-item l = l.all ++ names_bound (bound (map bound_tree (drop l.item-index l.item-items))) ≡ names_bound (bound l.list)
