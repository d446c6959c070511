use Rattle.std.proofs.Common.{◌≡◌, ◌++◌, map, drop}
use Rattle.std.specs.List.{flat_map}
use Rattle.std.specs.Prelude.{codes}
use Rattle.pgo_pluscal.specs.Text.{declaration_text}
use Rattle.pgo_pluscal.proofs.heads.push_declarations.Given as goal

abbrev pub invariant-loop-variable : goal.invariant-loop-variable
invariant-loop-variable l = l.bytes.items ++ flat_map (λ y. codes ", " ++ y) (map declaration_text (drop l.variable-index l.variables)) ≡ l.initial.bytes.items ++ flat_map (λ y. codes ", " ++ y) (map declaration_text l.variables)
