use Rattle.std.proofs.Common.{rules, arith}
use Rattle.std.proofs.lemmas.Grind.{common_steps}
use Rattle.pgo_mpcal_read.specs.ReadingSpec.{more_dashes}
use Rattle.pgo_expr_read.proofs.Steps.{turn_more, no_more}
use Rattle.pgo_mpcal_read.proofs.header.more_dashes.Goals as goal

pub returns-then-not-sees_minus : goal.returns-then-not-sees_minus
unfolding more_dashes
returns-then-not-sees_minus c =
    let e = turn_more (λ n. more_dashes n c.loop-turn.count c.loop-turn.stop c.loop-turn.cursor) _ c.loop-turn._turn c.loop-turn-test.true c.loop-turn.invariant.same in
    first_of (search rules, grind (arith, common_steps))

pub loop-turn-preserved : goal.loop-turn-preserved
unfolding more_dashes
loop-turn-preserved c =
    let e = turn_more (λ n. more_dashes n c.loop-turn.count c.loop-turn.stop c.loop-turn.cursor) _ c.loop-turn._turn c.loop-turn-test.true c.loop-turn.invariant.same in
    first_of (search rules, grind (arith, common_steps))

pub returns : goal.returns
unfolding more_dashes
returns c =
    let e = no_more (λ n. more_dashes n c.loop-turn.count c.loop-turn.stop c.loop-turn.cursor) _ c.loop-turn._turn c.loop-turn-test.false c.loop-turn.invariant.same in
    first_of (search rules, grind (arith, common_steps))
