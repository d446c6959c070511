use Rattle.std.proofs.Common.{◌≡◌, ◌++◌, drop, map}
use Rattle.pgo_meaning.specs.Parameters.{parameter_places}
use Rattle.pgo_lower.specs.Globals.{targeted}
use Rattle.pgo_lower.specs.Slots.{slot_views}
use Rattle.pgo_lower.proofs.slots.add_parameters.Given as goal

abbrev pub invariant-loop-b : goal.invariant-loop-b
invariant-loop-b l =
    slot_views l.slots.items ++ map (targeted l.globals.bound.now) (parameter_places l.process (drop l.b-index l.bindings))
    ≡ slot_views l.initial.slots.items ++ map (targeted l.globals.bound.now) (parameter_places l.process l.bindings)
