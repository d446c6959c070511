-- What the loop keeps: what is made and what is left are the whole.
use Rattle.std.proofs.Common.{◌≡◌, ◌++◌, drop}
use Rattle.pgo_scope.specs.Arity.{arity_heads}
use Rattle.pgo_scope.proofs.arity.add_arity_heads.Given as goal

abbrev pub invariant-loop-p : goal.invariant-loop-p
invariant-loop-p l = l.out.items ++ arity_heads l.t (drop l.p-index l.list) ≡ l.initial.out.items ++ arity_heads l.t l.list
