use Rattle.std.proofs.Common.{map, take}
use Rattle.pgo_base.specs.NameMaps.{has_name}
use Rattle.pgo_model.specs.ModuleView.{defined_view}
use Rattle.pgo_check.specs.Constants.{MeansSame}
use Rattle.pgo_check.proofs.constants.constants_by_value.Given as goal

abbrev pub invariant-loop-d : goal.invariant-loop-d
invariant-loop-d l = MeansSame (has_name l.initial.varying) (has_name l.varying) (map defined_view l.made) (map defined_view (take l.d-index l.defs))
