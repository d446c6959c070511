use Rattle.std.proofs.Common.{◌≡◌, suc, ◌+◌, ◌++◌, map, drop}
use Rattle.pgo_heads.specs.Views.{handed_view}
use Rattle.pgo_bound.specs.Runs as runs
use Rattle.pgo_heads.proofs.runs.matched.Given as goal

abbrev pub invariant-loop-i : goal.invariant-loop-i
invariant-loop-i l =
    runs.handed_from 1 l.params l.arguments ≡ map handed_view l.list.items ++ runs.handed_from (suc l.i) (drop l.i l.params) (drop l.i l.arguments)
