use Rattle.std.proofs.Common.{◌≡◌, map, drop, option_map}
use Rattle.pgo_heads.specs.Views.{run_view, finding_view}
use Rattle.pgo_heads.specs.Refusals as specs
use Rattle.std.specs.List.{flat_map}
use Rattle.pgo_bind.proofs.init_no_value.unset_in_runs.Given as goal

abbrev pub invariant-loop-r : goal.invariant-loop-r
invariant-loop-r l =
    specs.earlier (option_map finding_view l.best) (specs.first_placed (flat_map (specs.unset_in_run l.defs) (map run_view (drop l.r-index l.runs)))) ≡ specs.first_placed (flat_map (specs.unset_in_run l.defs) (map run_view l.runs))
