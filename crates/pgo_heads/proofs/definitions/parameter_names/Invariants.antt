use Rattle.std.proofs.Common.{◌≡◌, ◌+◌, ◌++◌, drop}
use Rattle.pgo_syntax.specs.PlacedNames.{names_of}
use Rattle.pgo_heads.proofs.definitions.parameter_names.Given as goal

abbrev pub invariant-loop-p : goal.invariant-loop-p
invariant-loop-p l =
    names_of l.params ≡ l.list.items ++ names_of (drop l.p-index l.params)
