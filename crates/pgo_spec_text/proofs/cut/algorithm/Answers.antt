-- Each turn is one step of the function on lists.
use Rattle.std.proofs.Common.{rules, arith}
use Rattle.std.proofs.lemmas.Grind.{common_steps}
use Rattle.pgo_lexer.proofs.Turns.{one_more, no_more}
use Rattle.pgo_spec_text.specs.Cutting.{algorithm}
use Rattle.pgo_spec_text.proofs.cut.algorithm.Goals as goal

pub returns-in_err-p-clause-value : goal.returns-in_err-p-clause-value
unfolding algorithm
returns-in_err-p-clause-value c =
    let e = one_more (λ n. algorithm c.args.limit n c.loop-turn.depth c.loop-turn.column c.loop-turn.at c.loop-turn.tokens c.loop-turn.rest.now) _ c.loop-turn._turn c.loop-turn-test.true c.loop-turn.invariant.algorithm in
    first_of (search rules, grind (arith, common_steps))

pub returns-in_err-add-clause-value : goal.returns-in_err-add-clause-value
unfolding algorithm
returns-in_err-add-clause-value c =
    let e = one_more (λ n. algorithm c.args.limit n c.loop-turn.depth c.loop-turn.column c.loop-turn.at c.loop-turn.tokens c.loop-turn.rest.now) _ c.loop-turn._turn c.loop-turn-test.true c.loop-turn.invariant.algorithm in
    first_of (search rules, grind (arith, common_steps))

pub returns-then-last-clause-value : goal.returns-then-last-clause-value
unfolding algorithm
returns-then-last-clause-value c =
    let e = one_more (λ n. algorithm c.args.limit n c.loop-turn.depth c.loop-turn.column c.loop-turn.at c.loop-turn.tokens c.loop-turn.rest.now) _ c.loop-turn._turn c.loop-turn-test.true c.loop-turn.invariant.algorithm in
    first_of (search rules, grind (arith, common_steps))

pub loop-turn-preserved : goal.loop-turn-preserved
unfolding algorithm
loop-turn-preserved c =
    let e = one_more (λ n. algorithm c.args.limit n c.loop-turn.depth c.loop-turn.column c.loop-turn.at c.loop-turn.tokens c.loop-turn.rest.now) _ c.loop-turn._turn c.loop-turn-test.true c.loop-turn.invariant.algorithm in
    record { algorithm = first_of (search rules, grind (arith, common_steps)); small = grind (arith, common_steps, c.in_ok-p.ensures.within); few = c.loop-turn.invariant.few; near = grind (arith, common_steps, c.columns_behind-column.ensures.within, c.in_ok-p.ensures.within); shallow = grind (arith, common_steps, c.depth_behind-next.ensures.within) }

pub returns-clause-value : goal.returns-clause-value
unfolding algorithm
returns-clause-value c =
    let e = no_more (λ n. algorithm c.args.limit n c.loop-turn.depth c.loop-turn.column c.loop-turn.at c.loop-turn.tokens c.loop-turn.rest.now) _ c.loop-turn._turn c.loop-turn-test.false c.loop-turn.invariant.algorithm in
    first_of (search rules, grind (arith, common_steps))
