-- What the loop keeps: what is made and what is left are the whole.
use Rattle.std.proofs.Common.{◌≡◌, ◌++◌, drop}
use Rattle.pgo_lower.specs.SlotViews.{slot_names}
use Rattle.pgo_lower.proofs.indexed_slots.names_of.Given as goal

abbrev pub invariant-loop-slot : goal.invariant-loop-slot
invariant-loop-slot l = l.names ++ slot_names (drop l.slot-index l.list) ≡ slot_names l.list
