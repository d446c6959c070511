-- What was made, and what is left.
use Rattle.std.proofs.Common.{◌≡◌, ◌++◌, drop, map}
use Rattle.std.specs.Arc.{arc_value}
use Rattle.pgo_places.specs.AllNames.{names_from, seen}
use Rattle.pgo_places.proofs.start.names_of.Given as goal

abbrev pub invariant-loop-code : goal.invariant-loop-code
invariant-loop-code l = map seen (map arc_value l.names.items) ++ names_from (drop l.code-index l.codes) l.left ≡ names_from l.codes l.instances
