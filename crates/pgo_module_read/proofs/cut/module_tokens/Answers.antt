-- Each turn is one step of the function on lists.
use Rattle.std.proofs.Common.{rules, arith}
use Rattle.std.proofs.lemmas.Grind.{common_steps}
use Rattle.pgo_lexer.proofs.Turns.{one_more, no_more}
use Rattle.pgo_module_read.specs.Cutting.{module_tokens}
use Rattle.pgo_module_read.proofs.cut.module_tokens.Goals as goal

pub returns-in_err-p : goal.returns-in_err-p
unfolding module_tokens
returns-in_err-p c =
    let e = one_more (λ n. module_tokens c.args.limit n c.loop-turn.row c.loop-turn.column c.loop-turn.at c.loop-turn.tokens c.loop-turn.rest.now) _ c.loop-turn._turn c.loop-turn-test.true c.loop-turn.invariant.tokens in
    first_of (search rules, grind (arith, common_steps))

pub returns-in_err-add : goal.returns-in_err-add
unfolding module_tokens
returns-in_err-add c =
    let e = one_more (λ n. module_tokens c.args.limit n c.loop-turn.row c.loop-turn.column c.loop-turn.at c.loop-turn.tokens c.loop-turn.rest.now) _ c.loop-turn._turn c.loop-turn-test.true c.loop-turn.invariant.tokens in
    first_of (search rules, grind (arith, common_steps))

pub returns-then-last : goal.returns-then-last
unfolding module_tokens
returns-then-last c =
    let e = one_more (λ n. module_tokens c.args.limit n c.loop-turn.row c.loop-turn.column c.loop-turn.at c.loop-turn.tokens c.loop-turn.rest.now) _ c.loop-turn._turn c.loop-turn-test.true c.loop-turn.invariant.tokens in
    first_of (search rules, grind (arith, common_steps))

pub loop-turn-preserved : goal.loop-turn-preserved
unfolding module_tokens
loop-turn-preserved c =
    let e = one_more (λ n. module_tokens c.args.limit n c.loop-turn.row c.loop-turn.column c.loop-turn.at c.loop-turn.tokens c.loop-turn.rest.now) _ c.loop-turn._turn c.loop-turn-test.true c.loop-turn.invariant.tokens in
    record { tokens = first_of (search rules, grind (arith, common_steps)); small = grind (arith, common_steps, c.in_ok-p.ensures.within); few = c.loop-turn.invariant.few; near = grind (arith, common_steps, c.columns_behind-column.ensures.within, c.in_ok-p.ensures.within) }

pub returns : goal.returns
unfolding module_tokens
returns c =
    let e = no_more (λ n. module_tokens c.args.limit n c.loop-turn.row c.loop-turn.column c.loop-turn.at c.loop-turn.tokens c.loop-turn.rest.now) _ c.loop-turn._turn c.loop-turn-test.false c.loop-turn.invariant.tokens in
    first_of (search rules, grind (arith, common_steps))
