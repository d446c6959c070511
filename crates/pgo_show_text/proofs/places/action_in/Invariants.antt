use Rattle.std.proofs.Common.{◌≡◌, map, drop}
use Rattle.pgo_base.specs.ActionView.{action_pair}
use Rattle.pgo_base.specs.Lookup.{find}
use Rattle.pgo_show_text.proofs.places.action_in.Given as goal

abbrev pub invariant-loop-action : goal.invariant-loop-action
invariant-loop-action l = find l.label (map action_pair l.actions) ≡ find l.label (map action_pair (drop l.action-index l.actions))
