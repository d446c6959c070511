use Rattle.std.proofs.Common.{◌≡◌, map, drop, option_map}
use Rattle.pgo_heads.specs.Views.{global_view, finding_view}
use Rattle.pgo_heads.specs.Refusals as specs
use Rattle.std.specs.List.{filter_map}
use Rattle.pgo_bind.proofs.init_empty.empty_globals.Given as goal

abbrev pub invariant-loop-g : goal.invariant-loop-g
invariant-loop-g l =
    specs.earlier (option_map finding_view l.best) (specs.first_placed (filter_map specs.empty_global (map global_view (drop l.g-index l.globals)))) ≡ specs.first_placed (filter_map specs.empty_global (map global_view l.globals))
