-- What the loop keeps: what is made and what is left are the whole.
use Rattle.std.proofs.Common.{◌≡◌, ◌++◌, drop}
use Rattle.pgo_uses.specs.Scopes.{row_names}
use Rattle.pgo_uses.specs.StatementUses.{with_names}
use Rattle.pgo_uses.proofs.statement_pieces.add_with_names.Given as goal

abbrev pub invariant-loop-w : goal.invariant-loop-w
invariant-loop-w l = row_names l.bound ++ with_names (drop l.w-index l.w-items) ≡ row_names l.initial.bound ++ with_names l.names
