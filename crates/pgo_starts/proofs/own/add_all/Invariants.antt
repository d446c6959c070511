use Rattle.std.proofs.Common.{◌≡◌, ◌++◌, map, drop}
use Rattle.pgo_base.specs.View.{data_of, named_data}
use Rattle.pgo_resource.specs.Kept.{member_view, own_view}
use Rattle.pgo_starts.proofs.OwnRows.{rows}
use Rattle.pgo_starts.proofs.own.add_all.Given as goal

abbrev pub invariant-loop-own : goal.invariant-loop-own
invariant-loop-own l =
    map named_data l.fn.list.items ++ rows (data_of l.id) (map member_view l.layout.members) (map own_view l.own-items) l.start
    ≡ map named_data l.list.items ++ rows (data_of l.id) (map member_view l.layout.members) (map own_view (drop l.own-index l.own-items)) l.start
