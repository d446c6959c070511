use Rattle.std.proofs.Common.{map}
use Rattle.std.proofs.lemmas.Result.{IfOk-equal}
use Rattle.pgo_base.specs.ActionView.{action_pair}
use Rattle.pgo_model.specs.ModuleText.{with_self}
use Rattle.pgo_module_write.proofs.Joins.{process_joined}
use Rattle.pgo_module_write.proofs.write.push_process.Goals as goal

pub returns : goal.returns
returns c =
    IfOk-equal c.push_with_self.result _ _ _ c.push_with_self.ensures
    (process_joined c.args.bytes.now.items c.push_actions.new.bytes.items (map action_pair c.as_slice.result.now) c.args.p.now.actions (with_self c.args.p.now.name) _ _ c.as_slice.ensures c.in_ok-push_actions.ensures c.in_ok-body.ensures)
