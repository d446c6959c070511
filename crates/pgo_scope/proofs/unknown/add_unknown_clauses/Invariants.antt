-- What the loop keeps: what is found and what is left are the whole.
use Rattle.std.proofs.Common.{◌≡◌, ◌++◌, drop}
use Rattle.pgo_scope.specs.Unknown.{unknown_clauses}
use Rattle.pgo_scope.proofs.unknown.add_unknown_clauses.Given as goal

abbrev pub invariant-loop-clause : goal.invariant-loop-clause
invariant-loop-clause l =
    l.out.items ++ unknown_clauses l.t (drop l.clause-index l.list) ≡ l.initial.out.items ++ unknown_clauses l.t l.list
