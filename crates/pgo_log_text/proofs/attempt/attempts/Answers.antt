-- Each turn of the loop is a turn of the function.
use Rattle.std.proofs.Common.{rules, arith, ◌+◌, map}
use Rattle.std.proofs.lemmas.Grind.{common_steps}
use Rattle.std.proofs.lemmas.List.{map_push}
use Rattle.pgo_bundle.specs.View.{attempt_view}
use Rattle.pgo_log_text.specs.Lines.{attempts}
use Rattle.pgo_lexer.proofs.Turns.{one_more, no_more}
use Rattle.pgo_log_text.proofs.attempt.attempts.Goals as goal

pub returns-in_err-attempt_line : goal.returns-in_err-attempt_line
unfolding attempts
returns-in_err-attempt_line c =
    let e = one_more (λ n. attempts n (c.loop-turn.turn + 1) (map attempt_view c.loop-turn.attempts) c.loop-turn.cursor) c.args.count c.loop-turn.turn c.loop-turn-test.true c.loop-turn.invariant in
    first_of (search rules, grind (arith, common_steps))

pub loop-turn-preserved : goal.loop-turn-preserved
unfolding attempts
loop-turn-preserved c =
    let e = one_more (λ n. attempts n (c.loop-turn.turn + 1) (map attempt_view c.loop-turn.attempts) c.loop-turn.cursor) c.args.count c.loop-turn.turn c.loop-turn-test.true c.loop-turn.invariant in
    let m = map_push attempt_view c.loop-turn.attempts c.in_ok-attempt_line.field-0 in
    first_of (search rules, grind (arith, common_steps))

pub returns : goal.returns
unfolding attempts
returns c =
    let e = no_more (λ n. attempts n (c.loop-turn.turn + 1) (map attempt_view c.loop-turn.attempts) c.loop-turn.cursor) c.args.count c.loop-turn.turn c.loop-turn-test.false c.loop-turn.invariant in
    first_of (search rules, grind (arith, common_steps))
