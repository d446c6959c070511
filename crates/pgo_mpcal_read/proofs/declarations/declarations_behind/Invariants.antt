use Rattle.std.proofs.Common.{◌≡◌, ◌-◌, length}
use Rattle.pgo_mpcal_read.specs.Reading.{sees_name}
use Rattle.pgo_mpcal_read.specs.ReadingUnits.{one_more_declaration}
use Rattle.pgo_expr_read.specs.Steps.{folded}
use Rattle.pgo_mpcal_read.proofs.declarations.declarations_behind.Given as goal

abbrev pub invariant-loop-turn : goal.invariant-loop-turn
invariant-loop-turn l = folded sees_name one_more_declaration (length l.fn.cursor) l.fn.first l.fn.cursor ≡ folded sees_name one_more_declaration (l._turn-end - l._turn) l.all l.cursor
