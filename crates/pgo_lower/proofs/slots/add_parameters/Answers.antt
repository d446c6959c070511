use Rattle.std.proofs.Common.{◌∙◌, ◌+◌, drop}
use Rattle.pgo_lower.specs.Slots.{slot_views}
use Rattle.pgo_lower.proofs.Behind.{drop_step}
use Rattle.pgo_lower.proofs.SlotLaws.{parameter_step}
use Rattle.pgo_lower.proofs.slots.add_parameters.Goals as goal

pub loop-b-preserved : goal.loop-b-preserved
loop-b-preserved c =
    let list = c.args.bindings.now in
    let i = c.loop-b.b-index in
    parameter_step c.args.globals.now.bound.now c.args.process.now (drop i list) (drop (i + 1) list) c.b-item.result (slot_views c.loop-b.slots.items) (slot_views c.add_parameter.new.slots.items)
    (drop_step list i c.b-item.result c.loop-b-test.true c.b-item.is) c.in_ok-add_parameter.ensures
    ∙ c.loop-b.invariant
