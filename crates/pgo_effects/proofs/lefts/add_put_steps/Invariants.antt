use Rattle.std.proofs.Common.{◌≡◌, ◌++◌, map, drop}
use Rattle.pgo_meaning.specs.MacrosPlaced as spec
use Rattle.pgo_effects.proofs.lefts.add_put_steps.Given as goal

abbrev pub invariant-loop-step : goal.invariant-loop-step
invariant-loop-step l = l.out.items ++ map (spec.put_step l.es) (drop l.step-index l.path) ≡ l.initial.out.items ++ map (spec.put_step l.es) l.path
