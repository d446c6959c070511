use Rattle.std.proofs.Common.{◌≡◌, length, map, drop}
use Rattle.pgo_base.specs.View.{named_data}
use Rattle.pgo_check.specs.Assigned.{HasVariablesOf}
use Rattle.pgo_check.proofs.definitions.have_same_names.Given as goal

abbrev pub invariant-loop-i : goal.invariant-loop-i
invariant-loop-i l =
    (length l.a ≡ length l.b) × (HasVariablesOf (map named_data (drop l.i l.a)) (map named_data (drop l.i l.b)) → HasVariablesOf (map named_data l.a) (map named_data l.b))
