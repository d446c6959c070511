use Rattle.std.proofs.Common.{◌≡◌, [], reverse, vec_len}
use Rattle.pgo_module_read.specs.Building.{process_from}
use Rattle.pgo_module_read.proofs.processes.process_from.Given as goal

abbrev pub invariant-loop-a : goal.invariant-loop-a
invariant-loop-a l = process_from l.fn.s [] (reverse l.fn.left.items) ≡ process_from l.fn.s l.done (reverse l.left.items)

abbrev pub decreases-loop-a : goal.decreases-loop-a
decreases-loop-a l = vec_len l.left
