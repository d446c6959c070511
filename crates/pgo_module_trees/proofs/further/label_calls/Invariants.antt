use Rattle.std.proofs.Common.{◌≡◌, ◌++◌, drop, map}
use Rattle.pgo_base.specs.ActionView.{action_pair}
use Rattle.pgo_model.specs.Module.{self_call}
use Rattle.pgo_module_trees.proofs.further.label_calls.Given as goal

abbrev pub invariant-loop-action : goal.invariant-loop-action
invariant-loop-action l =
    map (λ a. self_call a.0) (map action_pair l.actions) ≡ l.list.items ++ map (λ a. self_call a.0) (map action_pair (drop l.action-index l.actions))
