use Rattle.std.proofs.Common.{◌≡◌, ◌++◌, drop, map}
use Rattle.pgo_model.specs.Written.{written}
use Rattle.pgo_code.specs.Steps.{Own}
use Rattle.pgo_lower.specs.Slots.{slot_views}
use Rattle.pgo_lower.proofs.slots.add_locals.Given as goal

abbrev pub invariant-loop-d : goal.invariant-loop-d
invariant-loop-d l =
    slot_views l.slots.items ++ map (λ d. (d.name.name, Own (written l.process d.name.name))) (drop l.d-index l.locals)
    ≡ slot_views l.initial.slots.items ++ map (λ d. (d.name.name, Own (written l.process d.name.name))) l.locals
