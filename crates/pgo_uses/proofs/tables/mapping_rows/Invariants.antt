-- What the loop keeps: what is made and what is left are the whole.
use Rattle.std.proofs.Common.{◌≡◌, ◌++◌, drop}
use Rattle.pgo_uses.specs.Tables.{mapping_rows}
use Rattle.pgo_uses.proofs.tables.mapping_rows.Given as goal

abbrev pub invariant-loop-m : goal.invariant-loop-m
invariant-loop-m l = l.names ++ mapping_rows (drop l.m-index l.m-items) ≡ mapping_rows l.list
