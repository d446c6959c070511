use Rattle.std.proofs.Common.{◌≡◌, ◌++◌, map, drop}
use Rattle.std.specs.List.{flat_map}
use Rattle.std.specs.Prelude.{codes}
use Rattle.pgo_pluscal.proofs.heads.push_names.Given as goal

abbrev pub invariant-loop-name : goal.invariant-loop-name
invariant-loop-name l = l.bytes.items ++ flat_map (λ y. codes ", " ++ y) (map (λ x. x.name) (drop l.name-index l.names)) ≡ l.initial.bytes.items ++ flat_map (λ y. codes ", " ++ y) (map (λ x. x.name) l.names)
