use Rattle.std.proofs.Common.{◌≡◌, take}
use Rattle.pgo_effects.proofs.names.copy_layers.Given as goal

abbrev pub invariant-loop-es : goal.invariant-loop-es
invariant-loop-es l = l.all.items ≡ take l.es-index l.layers
