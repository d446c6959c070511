-- The value of a capacity, as an integer.
use Rattle.std.specs.Prelude.{◌≡◌, ℤ, Option, Some, None, Result, Ok, Err}
use Rattle.pgo_base.specs.Data.{Data, integer}
use Rattle.pgo_resource.specs.declared.resource.OpStop.{OpStop}
use Rattle.pgo_resource.specs.declared.resource.OpStop.TheVariants as stops

abbrev pub Capacity : Option Data → Result (Option ℤ) OpStop → Type 0
Capacity o (Ok (Some z)) = o ≡ Some (integer z)
Capacity o (Ok None) = Unit {0}
Capacity o (Err stops.Blocked) = ⊥
Capacity o (Err stops.NoValue) = ⊥
Capacity o (Err stops.AssertFails) = ⊥
Capacity o (Err stops.NoMemory) = Unit {0}
