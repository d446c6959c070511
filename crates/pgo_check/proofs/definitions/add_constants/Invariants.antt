use Rattle.std.proofs.Common.{◌≡◌, ◌++◌, map, drop}
use Rattle.pgo_base.specs.View.{named_data}
use Rattle.pgo_model.specs.Val as val
use Rattle.pgo_model.specs.ModuleView.{defined_view}
use Rattle.pgo_check.proofs.definitions.add_constants.Given as goal

abbrev pub invariant-loop-c : goal.invariant-loop-c
invariant-loop-c l =
    map defined_view l.fn.defs ++ map (λ c. val.Given c.0 c.1) (map named_data l.consts) ≡ map defined_view l.defs ++ map (λ c. val.Given c.0 c.1) (map named_data (drop l.c-index l.consts))
