use Rattle.std.proofs.Common.{◌≡◌, ◌≤◌, ◌++◌, drop, length}
use Rattle.pgo_pluscal.specs.Steps.{opened, level_within}
use Rattle.pgo_pluscal.proofs.steps.push_steps.Given as goal

abbrev pub invariant-loop-step : goal.invariant-loop-step
invariant-loop-step l =
    ((l.bytes.items ++ opened l.own l.at (drop l.step-index l.steps) ≡ l.initial.bytes.items ++ opened l.own l.level l.steps)
    × (level_within l.at (drop l.step-index l.steps) ≡ level_within l.level l.steps))
    × (l.at ≤ length l.bytes.items)
