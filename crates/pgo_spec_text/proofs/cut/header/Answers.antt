-- Each turn is one step of the function on lists.
use Rattle.std.proofs.Common.{rules, arith}
use Rattle.std.proofs.lemmas.Grind.{common_steps}
use Rattle.pgo_lexer.proofs.Turns.{one_more, no_more}
use Rattle.pgo_spec_text.specs.Cutting.{header}
use Rattle.pgo_spec_text.proofs.cut.header.Goals as goal

pub returns-then-is_algorithm_comment-clause-value : goal.returns-then-is_algorithm_comment-clause-value
unfolding header
returns-then-is_algorithm_comment-clause-value c =
    let e = one_more (λ n. header c.args.limit n c.loop-turn.column c.loop-turn.at c.loop-turn.tokens c.loop-turn.rest.now) _ c.loop-turn._turn c.loop-turn-test.true c.loop-turn.invariant.header in
    first_of (search rules, grind (arith, common_steps))

pub returns-in_err-p-clause-value : goal.returns-in_err-p-clause-value
unfolding header
returns-in_err-p-clause-value c =
    let e = one_more (λ n. header c.args.limit n c.loop-turn.column c.loop-turn.at c.loop-turn.tokens c.loop-turn.rest.now) _ c.loop-turn._turn c.loop-turn-test.true c.loop-turn.invariant.header in
    first_of (search rules, grind (arith, common_steps))

pub returns-in_err-add-clause-value : goal.returns-in_err-add-clause-value
unfolding header
returns-in_err-add-clause-value c =
    let e = one_more (λ n. header c.args.limit n c.loop-turn.column c.loop-turn.at c.loop-turn.tokens c.loop-turn.rest.now) _ c.loop-turn._turn c.loop-turn-test.true c.loop-turn.invariant.header in
    first_of (search rules, grind (arith, common_steps))

pub loop-turn-preserved : goal.loop-turn-preserved
unfolding header
loop-turn-preserved c =
    let e = one_more (λ n. header c.args.limit n c.loop-turn.column c.loop-turn.at c.loop-turn.tokens c.loop-turn.rest.now) _ c.loop-turn._turn c.loop-turn-test.true c.loop-turn.invariant.header in
    record { header = first_of (search rules, grind (arith, common_steps)); small = grind (arith, common_steps, c.in_ok-p.ensures.within); few = c.loop-turn.invariant.few; near = grind (arith, common_steps, c.columns_behind-column.ensures.within, c.in_ok-p.ensures.within) }

pub returns-clause-value : goal.returns-clause-value
unfolding header
returns-clause-value c =
    let e = no_more (λ n. header c.args.limit n c.loop-turn.column c.loop-turn.at c.loop-turn.tokens c.loop-turn.rest.now) _ c.loop-turn._turn c.loop-turn-test.false c.loop-turn.invariant.header in
    first_of (search rules, grind (arith, common_steps))
