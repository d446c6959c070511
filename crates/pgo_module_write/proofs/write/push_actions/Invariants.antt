use Rattle.std.proofs.Common.{◌≡◌, ◌++◌, drop, map}
use Rattle.pgo_base.specs.ActionView.{action_pair}
use Rattle.pgo_model.specs.ModuleText.{flatten, flat_lines, action_lines}
use Rattle.pgo_module_write.proofs.write.push_actions.Given as goal

abbrev pub invariant-loop-action : goal.invariant-loop-action
invariant-loop-action l =
    l.bytes.items ++ flatten (flat_lines (map action_lines (map action_pair (drop l.action-index l.actions))))
    ≡ l.initial.bytes.items ++ flatten (flat_lines (map action_lines (map action_pair l.actions)))
