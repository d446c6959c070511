use Rattle.std.proofs.Common.{◌≡◌}
use Rattle.pgo_pluscal.specs.PartView.{around}
use Rattle.pgo_walk.specs.Emitted.{left_in}
use Rattle.pgo_walk.proofs.make.row.Given as goal

abbrev pub invariant-loop : goal.invariant-loop
invariant-loop l = around l.initial.steps.items (left_in l.variables l.initial.state) ≡ around l.steps.items (left_in l.variables l.state)
