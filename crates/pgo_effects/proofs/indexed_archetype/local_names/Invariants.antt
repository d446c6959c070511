-- What the loop keeps: what is made and what is left are the whole.
use Rattle.std.proofs.Common.{◌≡◌, ◌++◌, drop}
use Rattle.pgo_uses.specs.Tables.{variable_rows}
use Rattle.pgo_effects.proofs.indexed_archetype.local_names.Given as goal

abbrev pub invariant-loop-d : goal.invariant-loop-d
invariant-loop-d l = l.names ++ variable_rows (drop l.d-index l.locals) ≡ variable_rows l.locals
