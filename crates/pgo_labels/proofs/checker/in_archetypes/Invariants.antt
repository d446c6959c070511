-- The sooner of what is found and what is left is the least of all.
use Rattle.std.proofs.Common.{◌≡◌, drop}
use Rattle.std.specs.Prelude.{flat_map}
use Rattle.pgo_labels.specs.Rules.{in_archetype}
use Rattle.pgo_syntax.specs.Least.{sooner_of, least}
use Rattle.pgo_labels.proofs.checker.in_archetypes.Given as goal

abbrev pub invariant-loop-a : goal.invariant-loop-a
invariant-loop-a l = sooner_of (λ f. f.place) l.found (least (λ f. f.place) (flat_map (in_archetype l.rule) (drop l.a-index l.list))) ≡ least (λ f. f.place) (flat_map (in_archetype l.rule) l.list)
