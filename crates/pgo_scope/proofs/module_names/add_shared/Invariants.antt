-- What the loop keeps: what is made and what is left are the whole.
use Rattle.std.proofs.Common.{◌≡◌, ◌++◌, drop}
use Rattle.pgo_uses.specs.PieceView.{placed_names}
use Rattle.pgo_scope.specs.Clash.{shared_module_names}
use Rattle.pgo_scope.proofs.module_names.add_shared.Given as goal

abbrev pub invariant-loop-x : goal.invariant-loop-x
invariant-loop-x l = l.out.items ++ shared_module_names (placed_names (drop l.x-index l.list)) ≡ l.initial.out.items ++ shared_module_names (placed_names l.list)
