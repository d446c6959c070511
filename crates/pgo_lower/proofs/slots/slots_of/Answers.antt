use Rattle.std.proofs.Common.{◌∙◌, ◌++◌, map, ap}
use Rattle.pgo_model.specs.Written.{written}
use Rattle.pgo_meaning.specs.Parameters.{parameter_places}
use Rattle.pgo_code.specs.Steps.{Own}
use Rattle.pgo_lower.specs.Globals.{targeted}
use Rattle.pgo_lower.specs.Slots.{slot_views}
use Rattle.pgo_lower.proofs.SlotLaws.{slots_law}
use Rattle.pgo_lower.proofs.slots.slots_of.Goals as goal

pub returns : goal.returns
returns c =
    let b = c.args.globals.now.bound.now in
    let i = c.args.i.now in
    let us = slot_views c.add_parameters.new.slots.items in
    slots_law b i us (slot_views c.add_locals.new.slots.items)
    (c.in_ok-add_parameters.ensures ∙ (λ z. slot_views (c.new-slots.ensures.items z) ++ map (targeted b) (parameter_places i.process (c.as_slice.ensures z))))
    (c.in_ok-add_locals.ensures ∙ ap (λ ds. us ++ map (λ d. (d.name.name, Own (written i.process d.name.name))) ds) c.as_slice-2.ensures)
