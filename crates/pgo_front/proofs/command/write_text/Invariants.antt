use Rattle.std.proofs.Common.{length, take, ◌-◌, ◌≤◌, ◌≡◌}
use Rattle.pgo_io.specs.Sink.{Grows}
use Rattle.pgo_front.proofs.command.write_text.Given as goal

abbrev pub invariant-loop-done : goal.invariant-loop-done
invariant-loop-done g l = record {
  within : l.done ≤ length l.text;
  grows : Grows (g.O.Sink.held l.initial.out) (g.O.Sink.held l.out) (take l.done l.text);
  steady : g.O.Sink.faults l.out ≡ g.O.Sink.faults l.initial.out;
}

abbrev pub decreases-loop-done : goal.decreases-loop-done
decreases-loop-done g l = length l.text - l.done
