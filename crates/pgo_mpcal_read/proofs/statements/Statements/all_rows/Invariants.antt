use Rattle.std.proofs.Common.{◌≡◌, ◌-◌, length, []}
use Rattle.pgo_mpcal_read.specs.ReadingStatements.{goes_on, one_more_row, with_depth, statement}
use Rattle.pgo_expr_read.specs.Steps.{folded}
use Rattle.pgo_mpcal_read.proofs.statements.Statements.all_rows.Given as goal

abbrev pub invariant-loop-turn : goal.invariant-loop-turn
invariant-loop-turn g l = folded goes_on (one_more_row l.self.macros.now l.self.limit (statement l.self.macros.now l.self.below)) (length l.fn.cursor) (with_depth 0 []) l.fn.cursor ≡ folded goes_on (one_more_row l.self.macros.now l.self.limit (statement l.self.macros.now l.self.below)) (l._turn-end - l._turn) l.all l.cursor
