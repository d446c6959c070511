-- What the loop keeps: what is made and what is left are the whole.
use Rattle.std.proofs.Common.{◌≡◌, ◌++◌, drop}
use Rattle.pgo_uses.specs.PieceView.{placed_names}
use Rattle.pgo_uses.specs.Heads.{named_by}
use Rattle.pgo_uses.proofs.heads.add_named_by.Given as goal

abbrev pub invariant-loop-p : goal.invariant-loop-p
invariant-loop-p l = placed_names l.out.items ++ named_by (drop l.p-index l.list) ≡ placed_names l.initial.out.items ++ named_by l.list
