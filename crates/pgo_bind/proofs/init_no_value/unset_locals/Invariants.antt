use Rattle.std.proofs.Common.{◌≡◌, drop, option_map}
use Rattle.pgo_heads.specs.Views.{run_view, finding_view}
use Rattle.pgo_heads.specs.Refusals as specs
use Rattle.std.specs.List.{filter_map}
use Rattle.pgo_bind.proofs.init_no_value.unset_locals.Given as goal

abbrev pub invariant-loop-d : goal.invariant-loop-d
invariant-loop-d l =
    specs.earlier (option_map finding_view l.best) (specs.first_placed (filter_map (specs.unset_local l.defs (run_view l.run)) (drop l.d-index l.locals))) ≡ specs.first_placed (filter_map (specs.unset_local l.defs (run_view l.run)) l.locals)
