use Rattle.std.proofs.Common.{◌≡◌, ◌++◌, IfOk, subst}
use Rattle.pgo_model.specs.ModuleText.{flatten, definition_lines}
use Rattle.pgo_module_write.proofs.Joins.{self_head}
use Rattle.pgo_module_write.proofs.write.push_with_self.Goals as goal

pub returns : goal.returns
returns c =
    subst (λ h. IfOk c.push_with.result (λ x. c.push_with.new.bytes.items ≡ c.args.bytes.now.items ++ flatten (definition_lines h c.args.body.now)))
    (self_head c.args.name.now) c.push_with.ensures
