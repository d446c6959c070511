-- What was made, and what is left.
use Rattle.std.proofs.Common.{◌≡◌, ◌++◌, length, map, reverse}
use Rattle.pgo_base.specs.BindingsView.{named_view}
use Rattle.pgo_places.specs.FirstStands.{variable_of}
use Rattle.pgo_places.proofs.start.start_values.Given as goal

abbrev pub invariant-loop-last : goal.invariant-loop-last
invariant-loop-last l = map named_view l.values.items ++ reverse (map (variable_of l.own) l.left) ≡ reverse (map (variable_of l.own) l.variables)

abbrev pub decreases-loop-last : goal.decreases-loop-last
decreases-loop-last l = length l.left
