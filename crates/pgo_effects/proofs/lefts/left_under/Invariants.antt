use Rattle.std.proofs.Common.{◌≡◌, drop}
use Rattle.pgo_effects.specs.Puts.{puts_left}
use Rattle.pgo_effects.proofs.lefts.left_under.Given as goal

abbrev pub invariant-loop-es : goal.invariant-loop-es
invariant-loop-es l = puts_left (drop l.es-index l.layers) l.done ≡ puts_left l.layers l.left
