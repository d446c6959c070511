use Rattle.std.proofs.Common.{◌≡◌, [], drop, ◌++◌}
use Rattle.pgo_translate.specs.Items as spec
use Rattle.pgo_translate.proofs.ends.staying.Given as goal

abbrev pub invariant-loop-x : goal.invariant-loop-x
invariant-loop-x l = spec.staying [] [] l.changes l.variables ≡ l.list.items ++ spec.staying [] [] l.changes (drop l.x-index l.variables)
