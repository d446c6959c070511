-- The numbers of one global.
use Rattle.std.proofs.Common.{ap, ◌∙◌}
use Rattle.std.specs.Prelude.{option_and_then}
use Rattle.pgo_base.specs.NameMaps.{found}
use Rattle.pgo_base.specs.View.{data_of}
use Rattle.pgo_model.specs.Operators.{same_data}
use Rattle.pgo_code.specs.Elements.{numbered}
use Rattle.pgo_code.proofs.ElementLaws.{element_added, empty_numbered}
use Rattle.pgo_code.proofs.elements.Elements.add_element.Goals as goal

pub returns : goal.returns
returns c = λ g v.
    element_added (found c.args.self.now.map) (found c.take.new.self) (found c.set.new.self) c.args.global.now c.unwrap_or-numbers.result c.number_first.new.numbers (same_data (data_of c.args.index.now) (data_of v)) (data_of v) c.args.number g
    (c.in_ok-set.ensures.noted g)
    (c.take.ensures.others g)
    (ap (λ m. numbered m (data_of v)) c.unwrap_or-numbers.ensures ∙ empty_numbered c.take.result c.new.result (data_of v) c.new.ensures.empty ∙ ap (λ o. option_and_then (λ m. numbered m (data_of v)) o) c.take.ensures.value)
    (c.in_ok-number_first.ensures v)
