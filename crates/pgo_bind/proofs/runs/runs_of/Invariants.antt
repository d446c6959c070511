use Rattle.std.proofs.Common.{◌≡◌, ◌++◌, map, drop}
use Rattle.pgo_bound.specs.Runs as runs
use Rattle.std.specs.List.{filter_map}
use Rattle.pgo_heads.specs.Views.{run_view}
use Rattle.pgo_bind.proofs.runs.runs_of.Given as goal

abbrev pub invariant-loop-p : goal.invariant-loop-p
invariant-loop-p l =
    filter_map (runs.run_of l.spec l.defs) l.p-items ≡ map run_view l.list.items ++ filter_map (runs.run_of l.spec l.defs) (drop l.p-index l.p-items)
