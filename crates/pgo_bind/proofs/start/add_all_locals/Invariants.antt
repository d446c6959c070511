use Rattle.std.proofs.Common.{◌≡◌, ◌++◌, map, drop}
use Rattle.pgo_base.specs.View.{named_data}
use Rattle.pgo_bound.specs.BoundOf as bound
use Rattle.std.specs.List.{flat_map}
use Rattle.pgo_heads.specs.Views.{run_view}
use Rattle.pgo_bind.proofs.start.add_all_locals.Given as goal

abbrev pub invariant-loop-r : goal.invariant-loop-r
invariant-loop-r l =
    map named_data l.fn.list.items ++ flat_map (bound.locals_of l.defs) (map run_view l.runs) ≡ map named_data l.list.items ++ flat_map (bound.locals_of l.defs) (map run_view (drop l.r-index l.runs))
