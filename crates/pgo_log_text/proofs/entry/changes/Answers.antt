-- Each turn of the loop is a turn of the function.
use Rattle.std.proofs.Common.{rules, arith, map}
use Rattle.std.proofs.lemmas.Grind.{common_steps}
use Rattle.std.proofs.lemmas.List.{map_push}
use Rattle.pgo_model.specs.LogView.{change_view}
use Rattle.pgo_log_text.specs.Lines.{changes}
use Rattle.pgo_lexer.proofs.Turns.{one_more, no_more}
use Rattle.pgo_log_text.proofs.entry.changes.Goals as goal

pub returns-in_err-change : goal.returns-in_err-change
unfolding changes
returns-in_err-change c =
    let e = one_more (λ n. changes n (map change_view c.loop-turn.changes) c.loop-turn.cursor) c.args.count c.loop-turn._turn c.loop-turn-test.true c.loop-turn.invariant in
    first_of (search rules, grind (arith, common_steps))

pub loop-turn-preserved : goal.loop-turn-preserved
unfolding changes
loop-turn-preserved c =
    let e = one_more (λ n. changes n (map change_view c.loop-turn.changes) c.loop-turn.cursor) c.args.count c.loop-turn._turn c.loop-turn-test.true c.loop-turn.invariant in
    let m = map_push change_view c.loop-turn.changes c.in_ok-change.field-0 in
    first_of (search rules, grind (arith, common_steps))

pub returns : goal.returns
unfolding changes
returns c =
    let e = no_more (λ n. changes n (map change_view c.loop-turn.changes) c.loop-turn.cursor) c.args.count c.loop-turn._turn c.loop-turn-test.false c.loop-turn.invariant in
    first_of (search rules, grind (arith, common_steps))
