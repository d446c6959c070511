-- What the map has.
use Rattle.std.proofs.Common.{ap, ◌∙◌}
use Rattle.std.specs.Prelude.{option_and_then}
use Rattle.pgo_base.specs.View.{data_of}
use Rattle.pgo_code.specs.Elements.{numbered}
use Rattle.pgo_code.proofs.elements.Elements.number.Goals as goal

pub returns-in-Some : goal.returns-in-Some
unfolding numbered
returns-in-Some c = c.copied.ensures ∙ c.get-in-Some.ensures.value ∙ ap (λ o. option_and_then (λ m. numbered m (data_of c.args.index.now)) o) c.in-Some.ensures
