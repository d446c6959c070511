use Rattle.std.proofs.Common.{◌≡◌, drop, option_map}
use Rattle.pgo_heads.specs.Views.{finding_view}
use Rattle.pgo_heads.specs.Refusals as specs
use Rattle.std.specs.List.{filter_map}
use Rattle.pgo_bind.proofs.local_sets.lacking_in.Given as goal

abbrev pub invariant-loop-d : goal.invariant-loop-d
invariant-loop-d l =
    specs.earlier (option_map finding_view l.best) (specs.first_placed (filter_map (specs.lacking_local l.defs l.lack) (drop l.d-index l.locals))) ≡ specs.first_placed (filter_map (specs.lacking_local l.defs l.lack) l.locals)
