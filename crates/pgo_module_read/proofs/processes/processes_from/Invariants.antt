use Rattle.std.proofs.Common.{◌≡◌, [], reverse}
use Rattle.pgo_module_read.specs.Building.{processes_from}
use Rattle.pgo_module_read.proofs.processes.processes_from.Given as goal

abbrev pub invariant-loop-s : goal.invariant-loop-s
invariant-loop-s l = processes_from [] l.fn.steps l.fn.actions ≡ processes_from l.all l.s-iterator.rest.items (reverse l.left.items)
