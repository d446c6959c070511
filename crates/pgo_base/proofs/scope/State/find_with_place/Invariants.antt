use Rattle.std.proofs.Common.{◌≡◌, map, drop}
use Rattle.std.specs.Prelude.{None, take}
use Rattle.pgo_base.specs.View.{named_data}
use Rattle.pgo_base.specs.Lookup.{find}
use Rattle.pgo_base.specs.States.{first_place}
use Rattle.pgo_base.proofs.scope.State.find_with_place.Given as goal

abbrev pub invariant-loop-i : goal.invariant-loop-i
invariant-loop-i l = record {
  value : find l.name (map named_data l.p-items) ≡ find l.name (map named_data (drop l.i l.p-items));
  before : first_place l.name (map named_data (take l.i l.p-items)) ≡ None;
}
