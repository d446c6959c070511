use Rattle.std.proofs.Common.{◌≡◌, ◌++◌, map, drop}
use Rattle.pgo_base.specs.View.{data_of, named_data}
use Rattle.pgo_model.specs.Written as names
use Rattle.pgo_workers.specs.Worlds.{own_at}
use Rattle.pgo_starts.proofs.own.add_names.Given as goal

abbrev pub invariant-loop-x : goal.invariant-loop-x
invariant-loop-x l =
    map named_data l.fn.list.items ++ own_at 0 (data_of l.id) (map (names.written l.own.process) l.own.names) l.start
    ≡ map named_data l.list.items ++ own_at 0 (data_of l.id) (map (names.written l.own.process) (drop l.x-index l.own.names)) l.start
