use Rattle.std.proofs.Common.{◌≡◌, ◌+◌, ◌++◌, map, drop}
use Rattle.pgo_heads.specs.Views.{handed_view}
use Rattle.pgo_bound.specs.Runs as runs
use Rattle.pgo_heads.proofs.mapping.bindings_of.Given as goal

abbrev pub invariant-loop-h : goal.invariant-loop-h
invariant-loop-h l =
    map (runs.binding_of l.spec l.run.process.now.clauses) (map handed_view l.h-items) ≡ l.list.items ++ map (runs.binding_of l.spec l.run.process.now.clauses) (map handed_view (drop l.h-index l.h-items))
