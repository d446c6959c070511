-- What the loop keeps: what is found and what is left are the whole.
use Rattle.std.proofs.Common.{◌≡◌, ◌++◌, drop}
use Rattle.pgo_scope.specs.Unknown.{unknown_arguments}
use Rattle.pgo_scope.proofs.unknown.add_unknown_arguments.Given as goal

abbrev pub invariant-loop-argument : goal.invariant-loop-argument
invariant-loop-argument l =
    l.out.items ++ unknown_arguments l.t (drop l.argument-index l.list) ≡ l.initial.out.items ++ unknown_arguments l.t l.list
