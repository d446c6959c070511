use Rattle.std.proofs.Common.{◌≡◌, ◌++◌, drop}
use Rattle.std.specs.List.{flat_map}
use Rattle.std.specs.Prelude.{codes}
use Rattle.pgo_module_write.proofs.lines.push_more.Given as goal

abbrev pub invariant-loop-name : goal.invariant-loop-name
invariant-loop-name l = l.bytes.items ++ flat_map (λ y. codes ", " ++ y) (drop l.name-index l.names) ≡ l.initial.bytes.items ++ flat_map (λ y. codes ", " ++ y) l.names
