-- What the loop keeps: the sooner of the first so far and of those that are left is the first of all.
use Rattle.std.proofs.Common.{◌≡◌}
use Rattle.pgo_syntax.specs.Least.{sooner_of, least}
use Rattle.pgo_scope.proofs.finding.earliest.Given as goal

abbrev pub invariant-loop-f : goal.invariant-loop-f
invariant-loop-f l =
    sooner_of (λ f. f.place) l.first (least (λ f. f.place) l.f-iterator.rest.items) ≡ least (λ f. f.place) l.initial.f-iterator.rest.items
