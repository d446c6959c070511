use Rattle.std.proofs.Common.{◌≡◌, drop}
use Rattle.pgo_expand.specs.Measures.{measured_processes}
use Rattle.pgo_expand.proofs.measure.behind_all.Given as goal

abbrev pub invariant-loop-process : goal.invariant-loop-process
invariant-loop-process l =
    measured_processes l.spec l.fn.left.nodes l.fn.left.height l.process-items
    ≡ measured_processes l.spec l.now.nodes l.now.height (drop l.process-index l.process-items)
