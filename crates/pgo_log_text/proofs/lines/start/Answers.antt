-- Each turn of the loop is a turn of the function.
use Rattle.std.proofs.Common.{rules, arith, map}
use Rattle.std.proofs.lemmas.Grind.{common_steps}
use Rattle.std.proofs.lemmas.List.{map_push}
use Rattle.pgo_base.specs.View.{named_data}
use Rattle.pgo_log_text.specs.Lines.{start}
use Rattle.pgo_log_text.proofs.Turns.{start_turn}
use Rattle.pgo_log_text.proofs.lines.start.Goals as goal

pub returns-in_err-value : goal.returns-in_err-value
returns-in_err-value c =
    let e = start_turn c.args.names.now c.loop-name.name-index (map named_data c.loop-name.list.items) c.loop-name.cursor c.name-item.result c.loop-name.invariant c.loop-name-test.true c.name-item.is in
    first_of (search rules, grind (arith, common_steps))

pub loop-name-preserved : goal.loop-name-preserved
loop-name-preserved c =
    let e = start_turn c.args.names.now c.loop-name.name-index (map named_data c.loop-name.list.items) c.loop-name.cursor c.name-item.result c.loop-name.invariant c.loop-name-test.true c.name-item.is in
    let m = map_push named_data c.loop-name.list.items (c.in_ok-copy.field-0, c.in_ok-value.value) in
    first_of (search rules, grind (arith, common_steps))

pub returns : goal.returns
unfolding start
returns c = first_of (search rules, grind (arith, common_steps))
