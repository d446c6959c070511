use Rattle.std.proofs.Common.{◌≡◌, take}
use Rattle.pgo_io.specs.Sink.{Grows}
use Rattle.pgo_model.specs.ModuleText.{flatten}
use Rattle.pgo_front.proofs.command.write_lines.Given as goal

abbrev pub invariant-loop-line : goal.invariant-loop-line
invariant-loop-line g l =
    Grows (g.O.Sink.held l.initial.out) (g.O.Sink.held l.out) (flatten (take l.line-index l.line-items))
    × (g.O.Sink.faults l.out ≡ g.O.Sink.faults l.initial.out)
