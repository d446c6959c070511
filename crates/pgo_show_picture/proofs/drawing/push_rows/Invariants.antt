-- What the loop keeps: the lines so far, and those of the rows that are left, are all.
use Rattle.std.proofs.Common.{◌≡◌, ◌++◌, map, drop}
use Rattle.pgo_model.specs.ModuleText.{line}
use Rattle.pgo_show_picture.proofs.drawing.push_rows.Given as goal

abbrev pub invariant-loop-row : goal.invariant-loop-row
invariant-loop-row l = l.lines ++ map line (map (λ r. r.now) (drop l.row-index l.rows)) ≡ l.fn.lines ++ map line (map (λ r. r.now) l.rows)
