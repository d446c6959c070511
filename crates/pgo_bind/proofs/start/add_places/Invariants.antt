use Rattle.std.proofs.Common.{◌≡◌, ◌++◌, map, drop}
use Rattle.pgo_base.specs.View.{data_of, pair_of}
use Rattle.pgo_bound.specs.BoundOf as bound
use Rattle.pgo_heads.specs.Views.{run_view}
use Rattle.pgo_bind.proofs.start.add_places.Given as goal

abbrev pub invariant-loop-id : goal.invariant-loop-id
invariant-loop-id l =
    map pair_of l.fn.pairs.items ++ map bound.first_place (map (λ d. (run_view l.run, d)) (map data_of l.id-items)) ≡ map pair_of l.pairs.items ++ map bound.first_place (map (λ d. (run_view l.run, d)) (map data_of (drop l.id-index l.id-items)))
