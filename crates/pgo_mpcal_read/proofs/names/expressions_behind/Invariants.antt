use Rattle.std.proofs.Common.{◌≡◌, ◌-◌, length}
use Rattle.pgo_lexer.specs.declared.symbol.Symbol.TheVariants as symbol
use Rattle.pgo_mpcal_read.specs.Signs.{sees}
use Rattle.pgo_mpcal_read.specs.Reading.{expression}
use Rattle.pgo_mpcal_read.specs.Reading.{one_behind}
use Rattle.pgo_expr_read.specs.Steps.{folded}
use Rattle.pgo_mpcal_read.proofs.names.expressions_behind.Given as goal

abbrev pub invariant-loop-turn : goal.invariant-loop-turn
invariant-loop-turn l = folded (sees symbol.Comma) (one_behind symbol.Comma expression) (length l.fn.cursor) l.fn.first l.fn.cursor ≡ folded (sees symbol.Comma) (one_behind symbol.Comma expression) (l._turn-end - l._turn) l.all l.cursor
