use Rattle.std.proofs.Common.{◌≡◌, ◌++◌, drop, map}
use Rattle.pgo_bound.specs.Values.{meant}
use Rattle.pgo_translate.proofs.translate.push_definitions.Given as goal

abbrev pub invariant-loop-d : goal.invariant-loop-d
invariant-loop-d l = l.list ++ map meant (drop l.d-index l.definitions) ≡ l.initial.list ++ map meant l.definitions
