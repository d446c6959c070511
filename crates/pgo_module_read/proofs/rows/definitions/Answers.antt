use Rattle.std.proofs.Common.{rules, arith}
use Rattle.std.proofs.lemmas.Grind.{common_steps}
use Rattle.pgo_expr_read.specs.Steps.{folded}
use Rattle.pgo_mpcal_read.specs.Reading.{one_more}
use Rattle.pgo_expr_read.proofs.Steps.{turn_more, no_more}
use Rattle.pgo_module_read.specs.Reading.{is_definition, definition}
use Rattle.pgo_module_read.proofs.rows.definitions.Goals as goal

pub returns-then-begins_list : goal.returns-then-begins_list
unfolding folded
returns-then-begins_list c =
    let e = turn_more (λ n. folded is_definition (one_more definition) n c.loop-turn.all c.loop-turn.cursor) _ c.loop-turn._turn c.loop-turn-test.true c.loop-turn.invariant in
    first_of (search rules, grind (arith, common_steps))

pub returns-in_err-more_definitions : goal.returns-in_err-more_definitions
unfolding folded
returns-in_err-more_definitions c =
    let e = turn_more (λ n. folded is_definition (one_more definition) n c.loop-turn.all c.loop-turn.cursor) _ c.loop-turn._turn c.loop-turn-test.true c.loop-turn.invariant in
    first_of (search rules, grind (arith, common_steps))

pub loop-turn-preserved : goal.loop-turn-preserved
unfolding folded
loop-turn-preserved c =
    let e = turn_more (λ n. folded is_definition (one_more definition) n c.loop-turn.all c.loop-turn.cursor) _ c.loop-turn._turn c.loop-turn-test.true c.loop-turn.invariant in
    first_of (search rules, grind (arith, common_steps))

pub returns : goal.returns
unfolding folded
returns c =
    let e = no_more (λ n. folded is_definition (one_more definition) n c.loop-turn.all c.loop-turn.cursor) _ c.loop-turn._turn c.loop-turn-test.false c.loop-turn.invariant in
    first_of (search rules, grind (arith, common_steps))
