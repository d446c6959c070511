use Rattle.std.proofs.Common.{rules, arith}
use Rattle.std.proofs.lemmas.Grind.{common_steps}
use Rattle.pgo_mpcal_read.specs.ReadingSpec.{some_left, part}
use Rattle.pgo_expr_read.specs.Steps.{folded}
use Rattle.pgo_expr_read.proofs.Steps.{turn_more, no_more}
use Rattle.pgo_mpcal_read.proofs.header.parts.Goals as goal

pub returns-then-not-some_left : goal.returns-then-not-some_left
unfolding folded
returns-then-not-some_left c =
    let e = turn_more (λ n. folded some_left part n c.loop-turn.all c.loop-turn.cursor) _ c.loop-turn._turn c.loop-turn-test.true c.loop-turn.invariant in
    first_of (search rules, grind (arith, common_steps))

pub returns-in_err-all : goal.returns-in_err-all
unfolding folded
returns-in_err-all c =
    let e = turn_more (λ n. folded some_left part n c.loop-turn.all c.loop-turn.cursor) _ c.loop-turn._turn c.loop-turn-test.true c.loop-turn.invariant in
    first_of (search rules, grind (arith, common_steps))

pub loop-turn-preserved : goal.loop-turn-preserved
unfolding folded
loop-turn-preserved c =
    let e = turn_more (λ n. folded some_left part n c.loop-turn.all c.loop-turn.cursor) _ c.loop-turn._turn c.loop-turn-test.true c.loop-turn.invariant in
    first_of (search rules, grind (arith, common_steps))

pub returns : goal.returns
unfolding folded
returns c =
    let e = no_more (λ n. folded some_left part n c.loop-turn.all c.loop-turn.cursor) _ c.loop-turn._turn c.loop-turn-test.false c.loop-turn.invariant in
    first_of (search rules, grind (arith, common_steps))
