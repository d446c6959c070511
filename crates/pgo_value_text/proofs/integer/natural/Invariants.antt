-- What the loop keeps: the digits that are left give the same, and no value is too great.
use Rattle.std.proofs.Common.{◌≡◌, ◌≤◌, drop}
use Rattle.pgo_value_text.specs.Reading as spec
use Rattle.pgo_value_text.proofs.integer.natural.Given as goal

abbrev pub invariant-loop-b : goal.invariant-loop-b
invariant-loop-b l =
    (spec.natural_from 0 l.digits ≡ spec.natural_from l.value (drop l.b-index l.digits)) × (l.value ≤ spec.most)
