use Rattle.std.proofs.Common.{◌≡◌, map, drop, option_map}
use Rattle.pgo_heads.specs.Views.{run_view, finding_view}
use Rattle.pgo_heads.specs.Refusals as specs
use Rattle.pgo_bind.proofs.local_sets.lacking.Given as goal

abbrev pub invariant-loop-a : goal.invariant-loop-a
invariant-loop-a l =
    specs.earlier (option_map finding_view l.best) (specs.first_placed (specs.lacking (drop l.a-index l.archetypes) l.defs (map run_view l.runs) l.lack)) ≡ specs.first_placed (specs.lacking l.archetypes l.defs (map run_view l.runs) l.lack)
