-- What the loop keeps: what is made and what is left are the whole.
use Rattle.std.proofs.Common.{◌≡◌, ◌++◌, drop}
use Rattle.pgo_uses.specs.PieceView.{placed_names}
use Rattle.pgo_uses.specs.Heads.{process_names}
use Rattle.pgo_uses.proofs.heads.add_process_names.Given as goal

abbrev pub invariant-loop-p : goal.invariant-loop-p
invariant-loop-p l = placed_names l.out.items ++ process_names (drop l.p-index l.p-items) ≡ placed_names l.initial.out.items ++ process_names l.p-items
