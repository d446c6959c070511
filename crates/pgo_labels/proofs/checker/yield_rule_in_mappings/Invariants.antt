-- The sooner of what is found and what is left is the least of all.
use Rattle.std.proofs.Common.{◌≡◌, drop}
use Rattle.std.specs.Prelude.{flat_map}
use Rattle.pgo_labels.specs.YieldRule.{yield_rule}
use Rattle.pgo_syntax.specs.Least.{sooner_of, least}
use Rattle.pgo_labels.proofs.checker.yield_rule_in_mappings.Given as goal

abbrev pub invariant-loop-m : goal.invariant-loop-m
invariant-loop-m l = sooner_of (λ f. f.place) l.found (least (λ f. f.place) (flat_map yield_rule (drop l.m-index l.list))) ≡ least (λ f. f.place) (flat_map yield_rule l.list)
