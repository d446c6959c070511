use Rattle.pgo_base.specs.ActionView.{action_pair}
use Rattle.pgo_model.specs.ModuleText.{action_lines}
use Rattle.pgo_module_write.proofs.Joins.{each_seen}
use Rattle.pgo_module_write.proofs.write.push_actions.Goals as goal

pub loop-action-preserved : goal.loop-action-preserved
loop-action-preserved c =
    each_seen action_pair action_lines c.args.actions.now c.loop-action.action-index c.action-item.result c.loop-action.bytes.items c.push_with_self.new.bytes.items _ c.loop-action-test.true c.action-item.is c.in_ok-push_with_self.ensures c.loop-action.invariant
