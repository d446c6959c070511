-- Each turn of the loop is a turn of the function.
use Rattle.std.proofs.Common.{rules, arith, map}
use Rattle.std.proofs.lemmas.Grind.{common_steps}
use Rattle.std.proofs.lemmas.List.{map_push}
use Rattle.pgo_base.specs.View.{named_data}
use Rattle.pgo_log_text.specs.Lines.{constants}
use Rattle.pgo_lexer.proofs.Turns.{one_more, no_more}
use Rattle.pgo_log_text.proofs.head.constants.Goals as goal

pub returns-in_err-constant_line : goal.returns-in_err-constant_line
unfolding constants
returns-in_err-constant_line c =
    let e = one_more (λ n. constants n (map named_data c.loop-turn.list.items) c.loop-turn.cursor) c.args.count c.loop-turn._turn c.loop-turn-test.true c.loop-turn.invariant in
    first_of (search rules, grind (arith, common_steps))

pub loop-turn-preserved : goal.loop-turn-preserved
unfolding constants
loop-turn-preserved c =
    let e = one_more (λ n. constants n (map named_data c.loop-turn.list.items) c.loop-turn.cursor) c.args.count c.loop-turn._turn c.loop-turn-test.true c.loop-turn.invariant in
    let m = map_push named_data c.loop-turn.list.items c.in_ok-constant_line.field-0 in
    first_of (search rules, grind (arith, common_steps))

pub returns : goal.returns
unfolding constants
returns c =
    let e = no_more (λ n. constants n (map named_data c.loop-turn.list.items) c.loop-turn.cursor) c.args.count c.loop-turn._turn c.loop-turn-test.false c.loop-turn.invariant in
    first_of (search rules, grind (arith, common_steps))
