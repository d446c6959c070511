-- What the loop keeps: what is found and what is left are the whole.
use Rattle.std.proofs.Common.{◌≡◌, ◌++◌, drop}
use Rattle.std.specs.Prelude.{flat_map}
use Rattle.pgo_uses.specs.PieceView.{placed_names}
use Rattle.pgo_scope.specs.Twice.{reserved_name}
use Rattle.pgo_scope.proofs.twice.add_reserved.Given as goal

abbrev pub invariant-loop-x : goal.invariant-loop-x
invariant-loop-x l = l.out.items ++ flat_map reserved_name (placed_names (drop l.x-index l.list)) ≡ l.initial.out.items ++ flat_map reserved_name (placed_names l.list)
