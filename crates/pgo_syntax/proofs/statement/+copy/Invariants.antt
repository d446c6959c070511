use Rattle.std.proofs.Common.{◌≡◌, map, take}
use Rattle.pgo_syntax.specs.StatementView.{statement, labeled_pair, branch_parts}
use Rattle.pgo_syntax.proofs.statement.+copy.Given as goal

abbrev pub invariant-Alternatives::copy-loop-item : goal.invariant-Alternatives::copy-loop-item
invariant-Alternatives::copy-loop-item l = map statement l.list.items ≡ map statement (take l.item-index l.item-items)

abbrev pub invariant-Block::copy-loop-item : goal.invariant-Block::copy-loop-item
invariant-Block::copy-loop-item l = map labeled_pair l.list.items ≡ map labeled_pair (take l.item-index l.item-items)

abbrev pub invariant-Branches::copy-loop-item : goal.invariant-Branches::copy-loop-item
invariant-Branches::copy-loop-item l = map branch_parts l.list.items ≡ map branch_parts (take l.item-index l.item-items)
