-- What the loop keeps: what is made and what is left are the whole.
use Rattle.std.proofs.Common.{◌≡◌, ◌++◌, drop}
use Rattle.pgo_uses.specs.PieceView.{placed_names}
use Rattle.pgo_uses.specs.Heads.{declared_names}
use Rattle.pgo_uses.proofs.heads.add_declared_names.Given as goal

abbrev pub invariant-loop-d : goal.invariant-loop-d
invariant-loop-d l = placed_names l.out.items ++ declared_names (drop l.d-index l.d-items) ≡ placed_names l.initial.out.items ++ declared_names l.d-items
