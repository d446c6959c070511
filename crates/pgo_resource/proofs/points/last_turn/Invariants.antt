use Rattle.std.proofs.Common.{◌≡◌, ◌≤◌, length, map, drop, None}
use Rattle.pgo_model.specs.Choice as choice
use Rattle.pgo_tries.specs.Chosen.{turned}
use Rattle.pgo_resource.specs.Points.{source_of, point_view}
use Rattle.pgo_resource.proofs.points.last_turn.Given as goal

abbrev pub invariant-loop-i : goal.invariant-loop-i
invariant-loop-i l =
    (l.i ≤ length l.points) × (turned (choice.words_of (source_of l.source)) l.i (map point_view (drop l.i l.points)) ≡ None)

abbrev pub decreases-loop-i : goal.decreases-loop-i
decreases-loop-i l = l.i
