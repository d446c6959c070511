use Rattle.std.proofs.Common.{◌≡◌, ◌++◌, map, drop}
use Rattle.pgo_base.specs.View.{data_of, pair_of}
use Rattle.pgo_bound.specs.Values as values
use Rattle.pgo_heads.specs.Views.{start_view}
use Rattle.pgo_base.specs.Data.{Data}
use Rattle.pgo_bind.proofs.start.constant_at.Given as goal

abbrev pub invariant-loop-id : goal.invariant-loop-id
invariant-loop-id l =
    map (λ (d : Data). (d, values.beginning (start_view l.start))) (map data_of l.ids) ≡ map pair_of l.pairs.items ++ map (λ (d : Data). (d, values.beginning (start_view l.start))) (map data_of (drop l.id-index l.ids))
