use Rattle.std.proofs.Common.{◌≡◌, ◌++◌, drop}
use Rattle.pgo_syntax.specs.PlacedNames.{names_of}
use Rattle.pgo_translate.proofs.translate.bare_names.Given as goal

abbrev pub invariant-loop-one : goal.invariant-loop-one
invariant-loop-one l = names_of l.placed ≡ l.list ++ names_of (drop l.one-index l.placed)
