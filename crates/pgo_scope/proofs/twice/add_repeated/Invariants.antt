-- What the loop keeps: what is found and what is left are the whole.
use Rattle.std.proofs.Common.{◌≡◌, [], ◌++◌, drop}
use Rattle.pgo_uses.specs.PieceView.{placed_names}
use Rattle.pgo_scope.specs.Twice.{repeated}
use Rattle.pgo_scope.proofs.twice.add_repeated.Given as goal

abbrev pub invariant-loop-x : goal.invariant-loop-x
invariant-loop-x l = l.out.items ++ repeated l.before (placed_names (drop l.x-index l.list)) ≡ l.initial.out.items ++ repeated [] (placed_names l.list)
