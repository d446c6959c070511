use Rattle.std.proofs.Common.{◌≡◌, ◌-◌, length}
use Rattle.pgo_expr_read.specs.Kinds.{follows}
use Rattle.pgo_expr_read.specs.Reading.{folded, goes_at, pass_at, more_at}
use Rattle.pgo_expr_read.proofs.grammar.Grammar.behind.Given as goal

abbrev pub invariant-loop-turn : goal.invariant-loop-turn
invariant-loop-turn g l = folded (goes_at l.between) (more_at g.I.Item.join (λ o. follows l.between o) (pass_at l.between) (g.I.Item.reading l.item l.self.limit l.self.below)) (length l.fn.cursor) l.fn.first l.fn.cursor ≡ folded (goes_at l.between) (more_at g.I.Item.join (λ o. follows l.between o) (pass_at l.between) (g.I.Item.reading l.item l.self.limit l.self.below)) (l._turn-end - l._turn) l.all l.cursor
