use Rattle.std.proofs.Common.{◌≡◌, ◌++◌, map, drop}
use Rattle.pgo_model.specs.ModuleView.{defined_view}
use Rattle.pgo_check.proofs.definitions.add_copies.Given as goal

abbrev pub invariant-loop-d : goal.invariant-loop-d
invariant-loop-d l =
    map defined_view l.fn.defs ++ map defined_view l.more ≡ map defined_view l.defs ++ map defined_view (drop l.d-index l.more)
