use Rattle.std.proofs.Common.{length, take, ◌-◌, ◌≤◌, ◌≡◌}
use Rattle.pgo_io.specs.Sink.{Grows}
use Rattle.pgo_io.proofs.write_all.write_all.Given as goal

abbrev pub invariant-loop-done : goal.invariant-loop-done
invariant-loop-done g l = record {
  within : l.done ≤ length l.piece;
  grows : Grows (g.O.Sink.held l.initial.sink) (g.O.Sink.held l.sink) (take l.done l.piece);
  steady : g.O.Sink.faults l.sink ≡ g.O.Sink.faults l.initial.sink;
}

abbrev pub decreases-loop-done : goal.decreases-loop-done
decreases-loop-done g l = length l.piece - l.done
