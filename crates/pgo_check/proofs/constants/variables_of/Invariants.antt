use Rattle.std.proofs.Common.{◌≡◌, false, map, drop}
use Rattle.pgo_base.specs.Lookup.{Name, find}
use Rattle.pgo_base.specs.NameMaps.{has_name}
use Rattle.pgo_base.specs.View.{named_data}
use Rattle.pgo_check.proofs.constants.variables_of.Given as goal

abbrev pub invariant-loop-p : goal.invariant-loop-p
invariant-loop-p l = (x : Name) → has_name l.names x ≡ false → find x l.s ≡ find x (map named_data (drop l.p-index l.p-items))
