use Rattle.std.proofs.Common.{◌≡◌, map, drop}
use Rattle.pgo_base.specs.ActionView.{action_pair}
use Rattle.pgo_show_text.specs.Facts as spec
use Rattle.pgo_show_text.proofs.places.has_action.Given as goal

abbrev pub invariant-loop-action : goal.invariant-loop-action
invariant-loop-action l = spec.has_action l.label (map action_pair l.actions) ≡ spec.has_action l.label (map action_pair (drop l.action-index l.actions))
