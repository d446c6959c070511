use Rattle.std.proofs.Common.{◌≡◌, ◌++◌}
use Rattle.pgo_effects.specs.Puts.{behind_name}
use Rattle.pgo_put_sizes.proofs.counted.behind_name.Given as goal

abbrev pub invariant-loop-arguments : goal.invariant-loop-arguments
invariant-loop-arguments l = l.all.items ++ behind_name l.arguments-iterator.rest.items l.name ≡ behind_name l.fn.layers.items l.x
