use Rattle.std.proofs.Common.{◌≡◌, drop}
use Rattle.pgo_base.specs.ExprView.{tree}
use Rattle.pgo_effects.specs.Puts.{puts_tree}
use Rattle.pgo_effects.proofs.evaluate.put_all.Given as goal

abbrev pub invariant-loop-es : goal.invariant-loop-es
invariant-loop-es l = puts_tree (drop l.es-index l.layers) l.done ≡ puts_tree l.layers (tree l.e)
