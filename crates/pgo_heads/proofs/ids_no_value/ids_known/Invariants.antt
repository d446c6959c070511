use Rattle.std.proofs.Common.{◌≡◌, map, drop}
use Rattle.pgo_heads.specs.Views.{run_view}
use Rattle.pgo_heads.specs.Refusals as specs
use Rattle.pgo_heads.proofs.ids_no_value.ids_known.Given as goal

abbrev pub invariant-loop-r : goal.invariant-loop-r
invariant-loop-r l =
    specs.first (specs.ids_unknown (map run_view l.runs)) ≡ specs.first (specs.ids_unknown (map run_view (drop l.r-index l.runs)))
