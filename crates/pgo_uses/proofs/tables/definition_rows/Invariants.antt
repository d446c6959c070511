-- What the loop keeps: what is made and what is left are the whole.
use Rattle.std.proofs.Common.{◌≡◌, ◌++◌, map, drop}
use Rattle.pgo_uses.specs.Tables.{definition_rows}
use Rattle.pgo_uses.proofs.tables.definition_rows.Given as goal

abbrev pub invariant-loop-d : goal.invariant-loop-d
invariant-loop-d l = l.names ++ definition_rows (map (λ d. d.now) (drop l.d-index l.d-items)) ≡ definition_rows (map (λ d. d.now) l.d-items)
