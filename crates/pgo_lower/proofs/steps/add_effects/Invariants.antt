use Rattle.std.proofs.Common.{◌≡◌, vec_len}
use Rattle.pgo_lower.specs.Slots.{tables_of}
use Rattle.pgo_lower.specs.Made.{steps_here}
use Rattle.pgo_lower.specs.Heads.{heads}
use Rattle.pgo_lower.proofs.steps.add_effects.Given as goal

abbrev pub invariant-loop-effect : goal.invariant-loop-effect
invariant-loop-effect l = heads (tables_of l.names) l.left.items (steps_here l.made) ≡ heads (tables_of l.names) l.fn.effects.items (steps_here l.initial.made)

abbrev pub decreases-loop-effect : goal.decreases-loop-effect
decreases-loop-effect l = vec_len l.left
