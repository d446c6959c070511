use Rattle.std.proofs.Common.{◌≡◌, ◌++◌}
use Rattle.pgo_syntax.specs.PlacedNames.{names_of}
use Rattle.pgo_module_read.proofs.rows.bare.Given as goal

abbrev pub invariant-loop-x : goal.invariant-loop-x
invariant-loop-x l = l.list ++ names_of l.x-iterator.rest.items ≡ names_of l.fn.names
