-- What was made, and what is left.
use Rattle.std.proofs.Common.{◌≡◌, ◌++◌, length, map, reverse}
use Rattle.pgo_places.proofs.start.owners_of.Given as goal

abbrev pub invariant-loop-last : goal.invariant-loop-last
invariant-loop-last l = l.owners.items ++ reverse (map (λ v. v.own) l.left) ≡ reverse (map (λ v. v.own) l.variables)

abbrev pub decreases-loop-last : goal.decreases-loop-last
decreases-loop-last l = length l.left
