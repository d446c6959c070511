use Rattle.std.proofs.Common.{◌≡◌, ◌+◌, ◌++◌, map, drop}
use Rattle.pgo_base.specs.View.{named_data}
use Rattle.pgo_heads.specs.Views.{global_view}
use Rattle.pgo_bound.specs.BoundOf as bound
use Rattle.pgo_heads.proofs.globals.add_globals.Given as goal

abbrev pub invariant-loop-g : goal.invariant-loop-g
invariant-loop-g l =
    map named_data l.fn.list.items ++ map bound.global_value (map global_view l.globals) ≡ map named_data l.list.items ++ map bound.global_value (map global_view (drop l.g-index l.globals))
