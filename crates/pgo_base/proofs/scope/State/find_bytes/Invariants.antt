use Rattle.std.proofs.Common.{◌≡◌, map, drop}
use Rattle.pgo_base.specs.View.{named_data}
use Rattle.pgo_base.specs.Lookup.{find}
use Rattle.pgo_base.proofs.scope.State.find_bytes.Given as goal

abbrev pub invariant-loop-p : goal.invariant-loop-p
invariant-loop-p l = find l.name (map named_data l.p-items) ≡ find l.name (map named_data (drop l.p-index l.p-items))
