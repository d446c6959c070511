-- What is written and what is left to write are the whole, and each call is about a part that is less deep.
use Rattle.std.proofs.Common.{◌≡◌, ◌+◌, ◌*◌, ◌≤◌, ◌++◌, max, drop, length}
use Rattle.pgo_pluscal.specs.PartSize.{depth, arms_depth}
use Rattle.pgo_pluscal.specs.PartView.{expansions, ending_of}
use Rattle.pgo_pluscal.specs.Text.{more_arms_text}
use Rattle.pgo_pluscal.proofs.lines.+lines.Given as goal

abbrev pub invariant-push_more_arms-loop-arm : goal.invariant-push_more_arms-loop-arm
invariant-push_more_arms-loop-arm l =
    (l.bytes.items ++ more_arms_text l.own l.level (expansions (drop l.arm-index l.arms))
    ≡ l.initial.bytes.items ++ more_arms_text l.own l.level (expansions l.arms))
    × (l.level ≤ length l.bytes.items)

abbrev pub decreases-push_part : goal.decreases-push_part
decreases-push_part l = 4 * depth l.part.now + 1

abbrev pub decreases-push_ending : goal.decreases-push_ending
decreases-push_ending l = 4 * depth (ending_of l.ending.now)

abbrev pub decreases-push_if : goal.decreases-push_if
decreases-push_if l = 4 * max (depth l.a.now) (depth l.b.now) + 2

abbrev pub decreases-push_arms : goal.decreases-push_arms
decreases-push_arms l = 4 * arms_depth (expansions l.arms.now) + 3

abbrev pub decreases-push_more_arms : goal.decreases-push_more_arms
decreases-push_more_arms l = 4 * arms_depth (expansions l.arms.now) + 2
