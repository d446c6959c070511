use Rattle.std.proofs.Common.{◌∙◌, map, ap}
use Rattle.pgo_section.specs.Folds.{at_of}
use Rattle.pgo_section.proofs.Values.{inserted}
use Rattle.pgo_section.proofs.changes.insert_value.Goals as goal

pub returns : goal.returns
returns c = ap (map at_of) c.in_ok-insert.ensures.items ∙ inserted c.args.resource c.args.value c.args.values.now.items c.place_of-place.result (c.place_of-place.ensures.place ∙ ap (λ l. Rattle.pgo_section.specs.Folds.place_in_order c.args.resource (map at_of l)) c.as_slice.ensures.value)
