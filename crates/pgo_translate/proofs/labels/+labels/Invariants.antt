-- Each call is about a part that is less deep.
use Rattle.std.proofs.Common.{◌≡◌, ◌+◌, ◌*◌, ◌++◌, drop}
use Rattle.pgo_pluscal.specs.PartSize.{depth, arms_depth}
use Rattle.pgo_pluscal.specs.PartView.{expansions, ending_of}
use Rattle.pgo_translate.specs.Items.{arm_trees}
use Rattle.pgo_translate.proofs.labels.+labels.Given as goal

abbrev pub invariant-arm_bodies-loop-arm : goal.invariant-arm_bodies-loop-arm
invariant-arm_bodies-loop-arm l =
    arm_trees l.variables l.globals (expansions l.arms) ≡ l.bodies.items ++ arm_trees l.variables l.globals (expansions (drop l.arm-index l.arms))

abbrev pub decreases-ending_items : goal.decreases-ending_items
decreases-ending_items l = 4 * depth (ending_of l.ending.now)

abbrev pub decreases-part_items : goal.decreases-part_items
decreases-part_items l = 4 * depth l.part.now + 1

abbrev pub decreases-body : goal.decreases-body
decreases-body l = 4 * depth l.part.now + 2

abbrev pub decreases-arm_bodies : goal.decreases-arm_bodies
decreases-arm_bodies l = 4 * arms_depth (expansions l.arms.now) + 3
