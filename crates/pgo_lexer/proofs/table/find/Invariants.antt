-- What the loop keeps: the rows that are left give the same.
use Rattle.std.proofs.Common.{◌≡◌, map, drop}
use Rattle.pgo_lexer.specs.Symbols as spec
use Rattle.pgo_lexer.proofs.table.find.Given as goal

abbrev pub invariant-loop-row : goal.invariant-loop-row
invariant-loop-row l =
    spec.find l.spelling (map (λ r. (r.0.now, r.1)) l.rows) ≡ spec.find l.spelling (map (λ r. (r.0.now, r.1)) (drop l.row-index l.rows))
