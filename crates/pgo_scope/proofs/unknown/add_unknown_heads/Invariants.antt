-- What the loop keeps: what is found and what is left are the whole.
use Rattle.std.proofs.Common.{◌≡◌, ◌++◌, drop}
use Rattle.pgo_scope.specs.Unknown.{unknown_heads}
use Rattle.pgo_scope.proofs.unknown.add_unknown_heads.Given as goal

abbrev pub invariant-loop-p : goal.invariant-loop-p
invariant-loop-p l =
    l.out.items ++ unknown_heads l.t (drop l.p-index l.list) ≡ l.initial.out.items ++ unknown_heads l.t l.list
