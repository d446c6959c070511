use Rattle.std.proofs.Common.{◌≡◌, drop}
use Rattle.pgo_measure.specs.Heights.{capped, all_joined, items_of, end_height}
use Rattle.pgo_measure.proofs.heights.height_of_end.Given as goal

abbrev pub invariant-loop-x : goal.invariant-loop-x
invariant-loop-x l =
    capped (end_height l.globals l.variables l.fn.before l.changes)
    ≡ capped (all_joined l.so_far (items_of l.globals l.changes l.kept (drop l.x-index l.variables)))
