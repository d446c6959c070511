-- What the loop keeps: what is left decides as the whole does.
use Rattle.std.proofs.Common.{◌≡◌, drop}
use Rattle.pgo_scope.specs.Underscores.{has_double}
use Rattle.pgo_scope.specs.Doubles.{double_behind}
use Rattle.pgo_scope.proofs.words.has_double_underscore.Given as goal

abbrev pub invariant-loop-b : goal.invariant-loop-b
invariant-loop-b l = has_double l.name ≡ double_behind l.behind (drop l.b-index l.bytes)
