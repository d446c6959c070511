use Rattle.std.proofs.Common.{rules, arith}
use Rattle.std.proofs.lemmas.Grind.{common_steps}
use Rattle.pgo_mpcal_read.specs.Reading.{sees_name}
use Rattle.pgo_mpcal_read.specs.ReadingUnits.{one_more_declaration}
use Rattle.pgo_expr_read.specs.Steps.{folded}
use Rattle.pgo_expr_read.proofs.Steps.{turn_more, no_more}
use Rattle.pgo_mpcal_read.proofs.declarations.declarations_behind.Goals as goal

pub returns-then-not-sees_name : goal.returns-then-not-sees_name
unfolding folded
returns-then-not-sees_name c =
    let e = turn_more (λ n. folded sees_name one_more_declaration n c.loop-turn.all c.loop-turn.cursor) _ c.loop-turn._turn c.loop-turn-test.true c.loop-turn.invariant in
    first_of (search rules, grind (arith, common_steps))

pub returns-in_err-more_declarations : goal.returns-in_err-more_declarations
unfolding folded
returns-in_err-more_declarations c =
    let e = turn_more (λ n. folded sees_name one_more_declaration n c.loop-turn.all c.loop-turn.cursor) _ c.loop-turn._turn c.loop-turn-test.true c.loop-turn.invariant in
    first_of (search rules, grind (arith, common_steps))

pub loop-turn-preserved : goal.loop-turn-preserved
unfolding folded
loop-turn-preserved c =
    let e = turn_more (λ n. folded sees_name one_more_declaration n c.loop-turn.all c.loop-turn.cursor) _ c.loop-turn._turn c.loop-turn-test.true c.loop-turn.invariant in
    first_of (search rules, grind (arith, common_steps))

pub returns : goal.returns
unfolding folded
returns c =
    let e = no_more (λ n. folded sees_name one_more_declaration n c.loop-turn.all c.loop-turn.cursor) _ c.loop-turn._turn c.loop-turn-test.false c.loop-turn.invariant in
    first_of (search rules, grind (arith, common_steps))
