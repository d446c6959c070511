-- What the loop keeps: what is made and what is left are the whole.
use Rattle.std.proofs.Common.{◌≡◌, ◌++◌, map, drop}
use Rattle.pgo_expr_write.specs.Parts.{see}
use Rattle.pgo_expr_write.specs.Pieces as spec
use Rattle.pgo_expr_write.proofs.lists.add_names.Given as goal

abbrev pub invariant-loop-i : goal.invariant-loop-i
invariant-loop-i l =
    map see l.parts.items ++ spec.names_from l.i (drop l.i l.items)
    ≡ map see l.initial.parts.items ++ spec.names_from 0 l.names
