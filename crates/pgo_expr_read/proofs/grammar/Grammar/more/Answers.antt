use Rattle.std.proofs.Common.{rules, arith}
use Rattle.std.proofs.lemmas.Grind.{common_steps}
use Rattle.pgo_expr_read.specs.Reading.{expr, more}
use Rattle.pgo_expr_read.proofs.Steps.{turn_more, no_more}
use Rattle.pgo_expr_read.proofs.grammar.Grammar.more.Goals as goal

pub returns-in_err-next : goal.returns-in_err-next
unfolding more
returns-in_err-next g c =
    let e = turn_more (λ n. more c.args.self.now.limit (expr c.args.self.now.below) c.args.least n c.loop-turn.left c.loop-turn.cursor) _ c.loop-turn._turn c.loop-turn-test.true c.loop-turn.invariant in
    first_of (search rules, grind (arith, common_steps))

pub returns-then-not-goes_on : goal.returns-then-not-goes_on
unfolding more
returns-then-not-goes_on g c =
    let e = turn_more (λ n. more c.args.self.now.limit (expr c.args.self.now.below) c.args.least n c.loop-turn.left c.loop-turn.cursor) _ c.loop-turn._turn c.loop-turn-test.true c.loop-turn.invariant in
    first_of (search rules, grind (arith, common_steps))

pub loop-turn-preserved : goal.loop-turn-preserved
unfolding more
loop-turn-preserved g c =
    let e = turn_more (λ n. more c.args.self.now.limit (expr c.args.self.now.below) c.args.least n c.loop-turn.left c.loop-turn.cursor) _ c.loop-turn._turn c.loop-turn-test.true c.loop-turn.invariant in
    first_of (search rules, grind (arith, common_steps))

pub returns : goal.returns
unfolding more
returns g c =
    let e = no_more (λ n. more c.args.self.now.limit (expr c.args.self.now.below) c.args.least n c.loop-turn.left c.loop-turn.cursor) _ c.loop-turn._turn c.loop-turn-test.false c.loop-turn.invariant in
    first_of (search rules, grind (arith, common_steps))
