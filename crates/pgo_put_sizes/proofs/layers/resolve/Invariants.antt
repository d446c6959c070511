-- The arguments that are left, put into the expression so far, give what all of them give of the first one.
use Rattle.std.proofs.Common.{◌≡◌, drop}
use Rattle.pgo_base.specs.ExprView.{tree}
use Rattle.pgo_put_sizes.specs.Under.{puts_under}
use Rattle.pgo_rewrite.specs.Scopes.{in_scope}
use Rattle.pgo_put_sizes.proofs.layers.resolve.Given as goal

abbrev pub invariant-loop-i : goal.invariant-loop-i
invariant-loop-i l = puts_under (drop l.i l.layers) (in_scope l.scope) (tree l.e) ≡ puts_under l.layers (in_scope l.scope) (tree l.initial.e)
