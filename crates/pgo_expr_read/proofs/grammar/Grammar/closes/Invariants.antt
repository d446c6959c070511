use Rattle.std.proofs.Common.{◌≡◌, ◌+◌, length}
use Rattle.pgo_expr_read.specs.Reading.{expr, closes}
use Rattle.pgo_expr_read.proofs.grammar.Grammar.closes.Given as goal

abbrev pub invariant-loop-turn : goal.invariant-loop-turn
invariant-loop-turn g l = record {
  same : closes l.self.limit (expr l.self.below) l.fn.openers l.fn.first l.fn.cursor ≡ closes l.self.limit (expr l.self.below) l.open l.left l.cursor;
  long : length l.open + l._turn ≡ l._turn-end;
}
