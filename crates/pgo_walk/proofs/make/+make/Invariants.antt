use Rattle.std.proofs.Common.{◌≡◌, ◌++◌, ◌+◌, ◌*◌, map}
use Rattle.pgo_pluscal.specs.PartView.{expansions}
use Rattle.pgo_sections.specs.Expansion.{Either}
use Rattle.pgo_sections.specs.Nodes.{nodes}
use Rattle.pgo_walk.specs.Emitted.{left_in}
use Rattle.pgo_walk.specs.Ended.{ended}
use Rattle.pgo_walk.proofs.make.+make.Given as goal

abbrev pub decreases-make : goal.decreases-make
decreases-make l = 3 * nodes (left_in l.variables.now l.state) + 2

abbrev pub decreases-make_ending : goal.decreases-make_ending
decreases-make_ending l = 3 * nodes (ended l.variables.now l.end (left_in l.variables.now l.state)) + 1

abbrev pub decreases-make_either : goal.decreases-make_either
decreases-make_either l = 3 * nodes (Either (expansions (map (left_in l.variables.now) l.arms.items)))

abbrev pub invariant-make_either-loop-arm : goal.invariant-make_either-loop-arm
invariant-make_either-loop-arm l =
    (goal.iterator-make_either-loop-arm).can_next l.arm-iterator
    × (goal.iterator-make_either-loop-arm).is_finite l.arm-iterator
    × (map (left_in l.variables) l.fn.arms.items ≡ l.parts.items ++ map (left_in l.variables) l.arm-iterator.rest.items)
