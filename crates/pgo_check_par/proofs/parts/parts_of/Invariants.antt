use Rattle.std.proofs.Common.{◌≡◌, ◌≤◌, ◌-◌, length, map, Some}
use Rattle.pgo_model.specs.Log.{StateAt}
use Rattle.pgo_model.specs.LogView.{entry_view}
use Rattle.pgo_check_par.specs.Parts.{Follow}
use Rattle.pgo_check_par.proofs.parts.parts_of.Given as goal

abbrev pub invariant-loop-from : goal.invariant-loop-from
invariant-loop-from l = record {
  follow : Follow l.start (map entry_view l.entries) 0 l.parts.items l.from;
  within : l.from ≤ length l.entries;
  before_is : StateAt l.start (map entry_view l.entries) l.from ≡ Some l.before;
}

abbrev pub decreases-loop-from : goal.decreases-loop-from
decreases-loop-from l = length l.entries - l.from
