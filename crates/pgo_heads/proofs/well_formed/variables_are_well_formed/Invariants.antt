use Rattle.std.proofs.Common.{map, drop}
use Rattle.pgo_base.specs.View.{named_data}
use Rattle.pgo_model.specs.State.{AllValues}
use Rattle.pgo_heads.proofs.well_formed.variables_are_well_formed.Given as goal

abbrev pub invariant-loop-p : goal.invariant-loop-p
invariant-loop-p l = AllValues (map named_data (drop l.p-index l.list)) → AllValues (map named_data l.list)
