use Rattle.std.proofs.Common.{◌≡◌, ◌<◌, ◌-◌, suc, arith, map}
use Rattle.pgo_base.specs.PairsView.{all_pairs}
use Rattle.pgo_base.specs.View.{data_of, pair_of}
use Rattle.pgo_base.specs.Size.{depth, members_size, graph_size}
use Rattle.pgo_base.specs.Falls.{items_depth-items, pairs_depth-pairs}
use Rattle.pgo_base.proofs.depth.+deeper.Goals as goal

pub is_deeper-returns-in-Set : goal.is_deeper-returns-in-Set
is_deeper-returns-in-Set t c =
    let e : depth (data_of c.args.value.now) ≡ suc (members_size (map data_of c.members.result.now)) = rw (c.in-Set.is, c.members.ensures) (omega (arith, items_depth-items c.in-Set.s)) in (
      λ h. let k : c.args.limit - 1 < members_size (map data_of c.members.result.now) = c.is_some_deeper.ensures.0 h in omega arith,
      λ h. c.is_some_deeper.ensures.1 (omega arith),
    )

pub is_deeper-returns-in-Fun : goal.is_deeper-returns-in-Fun
is_deeper-returns-in-Fun t c =
    let e : depth (data_of c.args.value.now) ≡ suc (graph_size (map pair_of (all_pairs c.pairs.result))) = rw (c.in-Fun.is, c.pairs.ensures) (omega (arith, pairs_depth-pairs c.in-Fun.f)) in (
      λ h. let k : c.args.limit - 1 < graph_size (map pair_of (all_pairs c.pairs.result)) = c.is_some_part_deeper.ensures.0 h in omega arith,
      λ h. c.is_some_part_deeper.ensures.1 (omega arith),
    )
