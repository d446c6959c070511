use Rattle.std.proofs.Common.{◌≡◌, ◌++◌}
use Rattle.pgo_base.specs.ExprView.{tree}
use Rattle.pgo_effects.specs.Puts.{behind_name, marked_by, puts_tree}
use Rattle.pgo_effects.proofs.names.name_under.Given as goal

abbrev pub invariant-loop-arguments : goal.invariant-loop-arguments
invariant-loop-arguments l =
    (l.behind.items ++ behind_name l.arguments-iterator.rest.items l.name ≡ behind_name l.fn.layers.items l.x)
    × (marked_by l.arguments-iterator.rest.items l.name ≡ marked_by l.fn.layers.items l.x)
    × (puts_tree l.arguments-iterator.rest.items l.value ≡ puts_tree l.fn.layers.items (tree l.e))
