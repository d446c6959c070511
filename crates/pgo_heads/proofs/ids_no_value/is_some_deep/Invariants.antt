use Rattle.std.proofs.Common.{◌≡◌, map, drop}
use Rattle.pgo_base.specs.View.{data_of}
use Rattle.pgo_heads.specs.Refusals as specs
use Rattle.pgo_heads.proofs.ids_no_value.is_some_deep.Given as goal

abbrev pub invariant-loop-id : goal.invariant-loop-id
invariant-loop-id l =
    specs.is_some_deep (map data_of l.ids) ≡ specs.is_some_deep (map data_of (drop l.id-index l.ids))
