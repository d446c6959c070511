use Rattle.std.proofs.Common.{◌≡◌, ◌++◌, map, drop}
use Rattle.pgo_bound.specs.BoundOf as bound
use Rattle.pgo_heads.specs.Views.{run_view, global_view}
use Rattle.pgo_bind.proofs.globals.globals_of.Given as goal

abbrev pub invariant-loop-declaration : goal.invariant-loop-declaration
invariant-loop-declaration l =
    map (bound.global_of l.defs (map run_view l.runs)) l.declaration-items ≡ map global_view l.list.items ++ map (bound.global_of l.defs (map run_view l.runs)) (drop l.declaration-index l.declaration-items)
