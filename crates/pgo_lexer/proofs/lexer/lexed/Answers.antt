use Rattle.std.proofs.Common.{rules, arith}
use Rattle.std.proofs.lemmas.Grind.{common_steps}
use Rattle.pgo_lexer.specs.Lexing.{lexed}
use Rattle.pgo_lexer.proofs.Turns.{one_more, no_more}
use Rattle.pgo_lexer.proofs.lexer.lexed.Goals as goal

pub returns-then-rest-eq0-clause-value : goal.returns-then-rest-eq0-clause-value
unfolding lexed
returns-then-rest-eq0-clause-value c =
    let e = one_more (λ n. lexed c.args.limit n c.loop-turn.column c.loop-turn.at c.loop-turn.tokens c.loop-turn.rest.now) _ c.loop-turn._turn c.loop-turn-test.true c.loop-turn.invariant.lexed in
    first_of (search rules, grind (arith, common_steps))

pub returns-in_err-p-clause-value : goal.returns-in_err-p-clause-value
unfolding lexed
returns-in_err-p-clause-value c =
    let e = one_more (λ n. lexed c.args.limit n c.loop-turn.column c.loop-turn.at c.loop-turn.tokens c.loop-turn.rest.now) _ c.loop-turn._turn c.loop-turn-test.true c.loop-turn.invariant.lexed in
    first_of (search rules, grind (arith, common_steps))

pub returns-in_err-add-clause-value : goal.returns-in_err-add-clause-value
unfolding lexed
returns-in_err-add-clause-value c =
    let e = one_more (λ n. lexed c.args.limit n c.loop-turn.column c.loop-turn.at c.loop-turn.tokens c.loop-turn.rest.now) _ c.loop-turn._turn c.loop-turn-test.true c.loop-turn.invariant.lexed in
    first_of (search rules, grind (arith, common_steps))

pub loop-turn-preserved : goal.loop-turn-preserved
unfolding lexed
loop-turn-preserved c =
    let e = one_more (λ n. lexed c.args.limit n c.loop-turn.column c.loop-turn.at c.loop-turn.tokens c.loop-turn.rest.now) _ c.loop-turn._turn c.loop-turn-test.true c.loop-turn.invariant.lexed in
    record { lexed = first_of (search rules, grind (arith, common_steps)); small = grind (arith, common_steps, c.in_ok-p.ensures.within); few = c.loop-turn.invariant.few; near = grind (arith, common_steps, c.columns_behind-column.ensures.within, c.in_ok-p.ensures.within) }

pub returns-then-rest-eq0-2-clause-value : goal.returns-then-rest-eq0-2-clause-value
unfolding lexed
returns-then-rest-eq0-2-clause-value c =
    let e = no_more (λ n. lexed c.args.limit n c.loop-turn.column c.loop-turn.at c.loop-turn.tokens c.loop-turn.rest.now) _ c.loop-turn._turn c.loop-turn-test.false c.loop-turn.invariant.lexed in
    first_of (search rules, grind (arith, common_steps))

pub returns-else-rest-eq0-2-clause-value : goal.returns-else-rest-eq0-2-clause-value
unfolding lexed
returns-else-rest-eq0-2-clause-value c =
    let e = no_more (λ n. lexed c.args.limit n c.loop-turn.column c.loop-turn.at c.loop-turn.tokens c.loop-turn.rest.now) _ c.loop-turn._turn c.loop-turn-test.false c.loop-turn.invariant.lexed in
    first_of (search rules, grind (arith, common_steps))
