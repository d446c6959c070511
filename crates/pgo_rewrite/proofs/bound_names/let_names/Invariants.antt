use Rattle.std.proofs.Common.{◌≡◌, ◌++◌, map, drop}
use Rattle.pgo_base.specs.ExprView.{named_tree}
use Rattle.pgo_base.specs.Tree.{named}
use Rattle.pgo_sections.specs.Bound.{names_of}
use Rattle.pgo_rewrite.proofs.bound_names.let_names.Given as goal

abbrev pub invariant-loop-item : goal.invariant-loop-item
invariant-loop-item l = l.all ++ names_of (named (map named_tree (drop l.item-index l.item-items))) ≡ names_of (named l.list)
