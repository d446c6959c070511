-- What the loop keeps: what is made and what is left are the whole.
use Rattle.std.proofs.Common.{◌≡◌, ◌++◌, drop}
use Rattle.pgo_uses.specs.Tables.{archetype_rows}
use Rattle.pgo_uses.proofs.tables.archetype_rows.Given as goal

abbrev pub invariant-loop-r : goal.invariant-loop-r
invariant-loop-r l = l.names ++ archetype_rows (drop l.r-index l.r-items) ≡ archetype_rows l.list
