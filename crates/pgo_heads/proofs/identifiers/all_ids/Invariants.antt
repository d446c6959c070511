use Rattle.std.proofs.Common.{◌≡◌, ◌+◌, ◌++◌, map, drop}
use Rattle.pgo_base.specs.View.{data_of}
use Rattle.pgo_heads.specs.Views.{run_view}
use Rattle.pgo_bound.specs.Runs.{all_ids}
use Rattle.pgo_heads.proofs.identifiers.all_ids.Given as goal

abbrev pub invariant-loop-r : goal.invariant-loop-r
invariant-loop-r l =
    all_ids (map run_view l.runs) ≡ map data_of l.list.items ++ all_ids (map run_view (drop l.r-index l.runs))
