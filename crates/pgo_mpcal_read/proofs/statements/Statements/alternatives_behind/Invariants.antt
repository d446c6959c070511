use Rattle.std.proofs.Common.{◌≡◌, ◌-◌, length}
use Rattle.pgo_lexer.specs.declared.symbol.Keyword.TheVariants as keyword
use Rattle.pgo_lexer.specs.declared.symbol.Symbol.TheVariants as symbol
use Rattle.pgo_mpcal_read.specs.Signs.{sees}
use Rattle.pgo_mpcal_read.specs.ReadingStatements.{one_more_or, statement}
use Rattle.pgo_expr_read.specs.Steps.{folded}
use Rattle.pgo_mpcal_read.proofs.statements.Statements.alternatives_behind.Given as goal

abbrev pub invariant-loop-turn : goal.invariant-loop-turn
invariant-loop-turn g l = folded (sees (symbol.Keyword keyword.Or)) (one_more_or l.self.macros.now l.self.limit (statement l.self.macros.now l.self.below)) (length l.fn.cursor) l.fn.first l.fn.cursor ≡ folded (sees (symbol.Keyword keyword.Or)) (one_more_or l.self.macros.now l.self.limit (statement l.self.macros.now l.self.below)) (l._turn-end - l._turn) l.all l.cursor
