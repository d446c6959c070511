use Rattle.std.proofs.Common.{◌≡◌, ◌+◌, ◌++◌, map, drop}
use Rattle.pgo_base.specs.View.{data_of}
use Rattle.pgo_heads.proofs.identifiers.add_ids.Given as goal

abbrev pub invariant-loop-id : goal.invariant-loop-id
invariant-loop-id l =
    map data_of l.fn.list.items ++ map data_of l.ids ≡ map data_of l.list.items ++ map data_of (drop l.id-index l.ids)
