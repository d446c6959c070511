use Rattle.std.proofs.Common.{◌≡◌, ◌∷◌, take}
use Rattle.pgo_effects.proofs.calls.within.Given as goal

abbrev pub invariant-loop-es : goal.invariant-loop-es
invariant-loop-es l = l.all.items ≡ l.fn.arguments ∷ take l.es-index l.layers
