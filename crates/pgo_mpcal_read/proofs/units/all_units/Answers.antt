use Rattle.std.proofs.Common.{rules, arith}
use Rattle.std.proofs.lemmas.Grind.{common_steps}
use Rattle.pgo_mpcal_read.specs.ReadingStatements.{goes_on}
use Rattle.pgo_mpcal_read.specs.ReadingSpec.{unit}
use Rattle.pgo_expr_read.specs.Steps.{folded}
use Rattle.pgo_expr_read.proofs.Steps.{turn_more, no_more}
use Rattle.pgo_mpcal_read.proofs.units.all_units.Goals as goal

pub returns-then-sees : goal.returns-then-sees
unfolding folded
returns-then-sees c =
    let e = turn_more (λ n. folded goes_on unit n c.loop-turn.all c.loop-turn.cursor) _ c.loop-turn._turn c.loop-turn-test.true c.loop-turn.invariant in
    first_of (search rules, grind (arith, common_steps))

pub returns-in_err-unit : goal.returns-in_err-unit
unfolding folded
returns-in_err-unit c =
    let e = turn_more (λ n. folded goes_on unit n c.loop-turn.all c.loop-turn.cursor) _ c.loop-turn._turn c.loop-turn-test.true c.loop-turn.invariant in
    first_of (search rules, grind (arith, common_steps))

pub loop-turn-preserved : goal.loop-turn-preserved
unfolding folded
loop-turn-preserved c =
    let e = turn_more (λ n. folded goes_on unit n c.loop-turn.all c.loop-turn.cursor) _ c.loop-turn._turn c.loop-turn-test.true c.loop-turn.invariant in
    first_of (search rules, grind (arith, common_steps))

pub returns : goal.returns
unfolding folded
returns c =
    let e = no_more (λ n. folded goes_on unit n c.loop-turn.all c.loop-turn.cursor) _ c.loop-turn._turn c.loop-turn-test.false c.loop-turn.invariant in
    first_of (search rules, grind (arith, common_steps))
