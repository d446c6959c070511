-- What is found under a name is the first value of it from here on.
use Rattle.std.proofs.Common.{◌≡◌, ◌≤◌, length, drop, map, option_map}
use Rattle.pgo_base.specs.Lookup.{Name, find}
use Rattle.pgo_base.specs.NameMaps.{found}
use Rattle.pgo_base.specs.View.{data_of, named_data}
use Rattle.pgo_starts.proofs.indexed_state.first_values.Given as goal

abbrev pub invariant-loop-i : goal.invariant-loop-i
invariant-loop-i l =
    ((x : Name) → option_map (λ r. data_of r.now) (found l.first x) ≡ find x (map named_data (drop l.i l.list))) × (l.i ≤ length l.list)

abbrev pub decreases-loop-i : goal.decreases-loop-i
decreases-loop-i l = l.i
