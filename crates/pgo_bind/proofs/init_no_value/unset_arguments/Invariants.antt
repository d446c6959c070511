use Rattle.std.proofs.Common.{◌≡◌, map, drop, option_map}
use Rattle.pgo_heads.specs.Views.{handed_view, run_view, finding_view}
use Rattle.pgo_heads.specs.Refusals as specs
use Rattle.std.specs.List.{filter_map}
use Rattle.pgo_bind.proofs.init_no_value.unset_arguments.Given as goal

abbrev pub invariant-loop-h : goal.invariant-loop-h
invariant-loop-h l =
    specs.earlier (option_map finding_view l.best) (specs.first_placed (filter_map (specs.unset_handed l.defs (run_view l.run)) (map handed_view (drop l.h-index l.handed)))) ≡ specs.first_placed (filter_map (specs.unset_handed l.defs (run_view l.run)) (map handed_view l.handed))
