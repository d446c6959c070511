use Rattle.std.proofs.Common.{◌≡◌, take}
use Rattle.std.specs.Prelude.{option_map}
use Rattle.pgo_base.specs.Lookup.{Name}
use Rattle.pgo_base.specs.NameMaps.{found}
use Rattle.pgo_check.proofs.ActionNames.{search_in}
use Rattle.pgo_check.proofs.definitions.bodies_of.Given as goal

abbrev pub invariant-loop-p : goal.invariant-loop-p
invariant-loop-p l = (x : Name) → option_map (λ r. r.now) (found l.bodies x) ≡ search_in x (take l.p-index l.processes)
