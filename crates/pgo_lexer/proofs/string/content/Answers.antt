use Rattle.std.proofs.Common.{rules, arith}
use Rattle.std.proofs.lemmas.Grind.{common_steps}
use Rattle.pgo_lexer.specs.Pieces.{chars}
use Rattle.pgo_lexer.proofs.Turns.{one_more, no_more}
use Rattle.pgo_lexer.proofs.string.content.Goals as goal

pub returns-in-End-clause-value : goal.returns-in-End-clause-value
unfolding chars
returns-in-End-clause-value c =
    let e = one_more (λ n. chars n c.loop-turn.string.items c.loop-turn.at c.loop-turn.rest.now) _ c.loop-turn._turn c.loop-turn-test.true c.loop-turn.invariant.chars in
    first_of (search rules, grind (arith, common_steps))

pub returns-in-Bad-clause-value : goal.returns-in-Bad-clause-value
unfolding chars
returns-in-Bad-clause-value c =
    let e = one_more (λ n. chars n c.loop-turn.string.items c.loop-turn.at c.loop-turn.rest.now) _ c.loop-turn._turn c.loop-turn-test.true c.loop-turn.invariant.chars in
    first_of (search rules, grind (arith, common_steps))

pub loop-turn-preserved : goal.loop-turn-preserved
unfolding chars
loop-turn-preserved c =
    let e = one_more (λ n. chars n c.loop-turn.string.items c.loop-turn.at c.loop-turn.rest.now) _ c.loop-turn._turn c.loop-turn-test.true c.loop-turn.invariant.chars in
    record { chars = first_of (search rules, grind (arith, common_steps)); small = grind (arith, common_steps, c.in-Byte.ensures.fits) }

pub returns-clause-value : goal.returns-clause-value
unfolding chars
returns-clause-value c =
    let e = no_more (λ n. chars n c.loop-turn.string.items c.loop-turn.at c.loop-turn.rest.now) _ c.loop-turn._turn c.loop-turn-test.false c.loop-turn.invariant.chars in
    first_of (search rules, grind (arith, common_steps))
