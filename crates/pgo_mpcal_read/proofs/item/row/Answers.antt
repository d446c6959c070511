use Rattle.std.proofs.Common.{rules, arith}
use Rattle.std.proofs.lemmas.Grind.{common_steps}
use Rattle.pgo_expr_read.specs.Steps.{folded}
use Rattle.pgo_mpcal_read.specs.Reading.{one_more}
use Rattle.pgo_expr_read.proofs.Steps.{turn_more, no_more}
use Rattle.pgo_mpcal_read.proofs.item.row.Goals as goal

pub returns-then-not-is_next : goal.returns-then-not-is_next
unfolding folded
returns-then-not-is_next g c =
    let e = turn_more (λ n. folded g.T.RowItem.begins (one_more g.T.Item.parser) n c.loop-turn.all c.loop-turn.cursor) _ c.loop-turn._turn c.loop-turn-test.true c.loop-turn.invariant in
    first_of (search rules, grind (arith, common_steps))

pub returns-in_err-one_more : goal.returns-in_err-one_more
unfolding folded
returns-in_err-one_more g c =
    let e = turn_more (λ n. folded g.T.RowItem.begins (one_more g.T.Item.parser) n c.loop-turn.all c.loop-turn.cursor) _ c.loop-turn._turn c.loop-turn-test.true c.loop-turn.invariant in
    first_of (search rules, grind (arith, common_steps))

pub loop-turn-preserved : goal.loop-turn-preserved
unfolding folded
loop-turn-preserved g c =
    let e = turn_more (λ n. folded g.T.RowItem.begins (one_more g.T.Item.parser) n c.loop-turn.all c.loop-turn.cursor) _ c.loop-turn._turn c.loop-turn-test.true c.loop-turn.invariant in
    first_of (search rules, grind (arith, common_steps))

pub returns : goal.returns
unfolding folded
returns g c =
    let e = no_more (λ n. folded g.T.RowItem.begins (one_more g.T.Item.parser) n c.loop-turn.all c.loop-turn.cursor) _ c.loop-turn._turn c.loop-turn-test.false c.loop-turn.invariant in
    first_of (search rules, grind (arith, common_steps))
