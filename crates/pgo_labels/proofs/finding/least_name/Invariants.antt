-- The sooner of what is found and what is left is the least of all.
use Rattle.std.proofs.Common.{◌≡◌, map, drop}
use Rattle.std.specs.Prelude.{option_copied}
use Rattle.pgo_syntax.specs.Least.{sooner_of, least}
use Rattle.pgo_labels.proofs.finding.least_name.Given as goal

abbrev pub invariant-loop-name : goal.invariant-loop-name
invariant-loop-name l =
    sooner_of (λ n. n.place) (option_copied l.found) (least (λ n. n.place) (map (λ n. n.now) (drop l.name-index l.names)))
    ≡ least (λ n. n.place) (map (λ n. n.now) l.names)
