use Rattle.std.proofs.Common.{◌≡◌, ◌++◌, map, drop}
use Rattle.pgo_base.specs.View.{named_data}
use Rattle.pgo_bound.specs.BoundOf as bound
use Rattle.std.specs.List.{filter_map}
use Rattle.pgo_heads.specs.Views.{handed_view, run_view}
use Rattle.pgo_bind.proofs.start.add_arguments.Given as goal

abbrev pub invariant-loop-h : goal.invariant-loop-h
invariant-loop-h l =
    map named_data l.fn.list.items ++ filter_map (bound.own_argument l.defs (run_view l.run)) (map handed_view l.h-items) ≡ map named_data l.list.items ++ filter_map (bound.own_argument l.defs (run_view l.run)) (map handed_view (drop l.h-index l.h-items))
