use Rattle.std.proofs.Common.{◌≡◌, drop}
use Rattle.pgo_lower.specs.Made.{steps_here}
use Rattle.pgo_lower.specs.Heads.{unbound_by}
use Rattle.pgo_lower.proofs.steps.add_unbinds.Given as goal

abbrev pub invariant-loop-effect : goal.invariant-loop-effect
invariant-loop-effect l = unbound_by (drop l._effect-index l.effects) (steps_here l.made) ≡ unbound_by l.effects (steps_here l.initial.made)
