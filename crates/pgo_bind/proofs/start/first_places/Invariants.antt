use Rattle.std.proofs.Common.{◌≡◌, ◌++◌, map, drop}
use Rattle.pgo_base.specs.View.{pair_of}
use Rattle.pgo_bound.specs.BoundOf as bound
use Rattle.pgo_heads.specs.Views.{run_view}
use Rattle.pgo_bind.proofs.start.first_places.Given as goal

abbrev pub invariant-loop-r : goal.invariant-loop-r
invariant-loop-r l =
    map bound.first_place (bound.places_of (map run_view l.runs)) ≡ map pair_of l.pairs.items ++ map bound.first_place (bound.places_of (map run_view (drop l.r-index l.runs)))
