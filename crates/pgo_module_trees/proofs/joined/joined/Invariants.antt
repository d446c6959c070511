use Rattle.std.proofs.Common.{◌≡◌, reverse, vec_len}
use Rattle.pgo_model.specs.Module.{joined_by}
use Rattle.pgo_module_trees.proofs.joined.joined.Given as goal

abbrev pub invariant-loop-next : goal.invariant-loop-next
invariant-loop-next l = joined_by l.o l.whole (reverse l.left.items) ≡ joined_by l.o l.fn.e (reverse l.fn.others.items)

abbrev pub decreases-loop-next : goal.decreases-loop-next
decreases-loop-next l = vec_len l.left
