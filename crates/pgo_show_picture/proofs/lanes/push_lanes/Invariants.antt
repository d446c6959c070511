-- What the loop keeps: the lines so far, with those of the lanes that are left, are all.
use Rattle.std.proofs.Common.{◌≡◌, map, drop}
use Rattle.pgo_bundle.specs.View.{account_view}
use Rattle.pgo_show_picture.specs.Picture as spec
use Rattle.pgo_show_picture.proofs.lanes.push_lanes.Given as goal

abbrev pub invariant-loop-lane : goal.invariant-loop-lane
invariant-loop-lane l =
    spec.with_lanes l.size l.band 0 (map account_view l.accounts) l.fn.lines ≡ spec.with_lanes l.size l.band l.lane (map account_view (drop l.lane l.accounts)) l.lines
