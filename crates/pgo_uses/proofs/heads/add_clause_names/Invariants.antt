-- What the loop keeps: what is made and what is left are the whole.
use Rattle.std.proofs.Common.{◌≡◌, ◌++◌, drop}
use Rattle.pgo_uses.specs.PieceView.{placed_names}
use Rattle.pgo_uses.specs.Heads.{clause_names}
use Rattle.pgo_uses.proofs.heads.add_clause_names.Given as goal

abbrev pub invariant-loop-clause : goal.invariant-loop-clause
invariant-loop-clause l = placed_names l.out.items ++ clause_names (drop l.clause-index l.list) ≡ placed_names l.initial.out.items ++ clause_names l.list
