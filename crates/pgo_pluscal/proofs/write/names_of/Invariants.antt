use Rattle.std.proofs.Common.{◌≡◌, map, take}
use Rattle.pgo_pluscal.proofs.write.names_of.Given as goal

abbrev pub invariant-loop-variable : goal.invariant-loop-variable
invariant-loop-variable l = l.names ≡ map (λ d. d.name.name) (take l.variable-index l.variables)
