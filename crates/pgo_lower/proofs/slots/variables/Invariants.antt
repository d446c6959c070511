use Rattle.std.proofs.Common.{◌≡◌, take, map}
use Rattle.pgo_lower.specs.Globals.{own_target}
use Rattle.pgo_lower.specs.Slots.{slot_views, variable_view}
use Rattle.pgo_lower.proofs.slots.variables.Given as goal

abbrev pub invariant-loop-slot : goal.invariant-loop-slot
invariant-loop-slot l = map variable_view l.list.items ≡ map (λ q. (q.0, own_target q.1)) (slot_views (take l.slot-index l.slots))
