-- What is known of a name is the first of it from here on.
use Rattle.std.proofs.Common.{◌≡◌, ◌≤◌, length, drop, option_map}
use Rattle.pgo_base.specs.FirstPlace.{first_named}
use Rattle.pgo_base.specs.Lookup.{Name}
use Rattle.pgo_base.specs.NameMaps.{found}
use Rattle.pgo_base.proofs.last_place.first_of_each.Given as goal

abbrev pub invariant-loop-i : goal.invariant-loop-i
invariant-loop-i g l =
    ((x : Name) → option_map (λ r. r.now) (found l.first x) ≡ first_named g.T.Named.name_of x (drop l.i l.list)) × (l.i ≤ length l.list)

abbrev pub decreases-loop-i : goal.decreases-loop-i
decreases-loop-i g l = l.i
