use Rattle.std.proofs.Common.{◌≡◌, map, take}
use Rattle.pgo_base.specs.ExprView.{tree, named_tree, arm_tree, bound_tree, path_tree}
use Rattle.pgo_base.proofs.expr.+copy.Given as goal

abbrev pub invariant-Exprs::copy-loop-item : goal.invariant-Exprs::copy-loop-item
invariant-Exprs::copy-loop-item l = map tree l.list.items ≡ map tree (take l.item-index l.item-items)

abbrev pub invariant-Named::copy-loop-item : goal.invariant-Named::copy-loop-item
invariant-Named::copy-loop-item l = map named_tree l.list.items ≡ map named_tree (take l.item-index l.item-items)

abbrev pub invariant-Arms::copy-loop-item : goal.invariant-Arms::copy-loop-item
invariant-Arms::copy-loop-item l = map arm_tree l.list.items ≡ map arm_tree (take l.item-index l.item-items)

abbrev pub invariant-Binders::copy-loop-item : goal.invariant-Binders::copy-loop-item
invariant-Binders::copy-loop-item l = map bound_tree l.list.items ≡ map bound_tree (take l.item-index l.item-items)

abbrev pub invariant-Updates::copy-loop-item : goal.invariant-Updates::copy-loop-item
invariant-Updates::copy-loop-item l = map path_tree l.list.items ≡ map path_tree (take l.item-index l.item-items)
