use Rattle.std.proofs.Common.{◌≡◌, ◌++◌, map, drop}
use Rattle.pgo_base.specs.ActionView.{action_pair}
use Rattle.pgo_model.specs.Module.{action_definition}
use Rattle.pgo_model.specs.ModuleView.{defined_view}
use Rattle.pgo_check.proofs.definitions.add_actions.Given as goal

abbrev pub invariant-loop-a : goal.invariant-loop-a
invariant-loop-a l =
    map defined_view l.fn.defs ++ map action_definition (map action_pair l.actions) ≡ map defined_view l.defs ++ map action_definition (map action_pair (drop l.a-index l.actions))
