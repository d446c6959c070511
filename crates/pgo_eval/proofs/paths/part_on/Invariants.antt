use Rattle.std.proofs.Common.{◌≡◌, map, drop}
use Rattle.pgo_base.specs.View.{data_of}
use Rattle.pgo_eval.specs.Paths.{part_on}
use Rattle.pgo_eval.proofs.paths.part_on.Given as goal

abbrev pub invariant-loop-i : goal.invariant-loop-i
invariant-loop-i l =
    part_on (map data_of l.path) (data_of l.initial.part) ≡ part_on (map data_of (drop l.i-index l.path)) (data_of l.part)
