use Rattle.std.proofs.Common.{◌≡◌, ◌-◌, length}
use Rattle.pgo_mpcal_read.specs.ReadingStatements.{sees_else_if, one_more_branch, statement}
use Rattle.pgo_expr_read.specs.Steps.{folded}
use Rattle.pgo_mpcal_read.proofs.statements.Statements.branches_behind.Given as goal

abbrev pub invariant-loop-turn : goal.invariant-loop-turn
invariant-loop-turn g l = folded sees_else_if (one_more_branch l.self.macros.now l.self.limit (statement l.self.macros.now l.self.below)) (length l.fn.cursor) l.fn.first l.fn.cursor ≡ folded sees_else_if (one_more_branch l.self.macros.now l.self.limit (statement l.self.macros.now l.self.below)) (l._turn-end - l._turn) l.all l.cursor
