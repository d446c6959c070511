-- What the map of elements has is the first of the resources.
use Rattle.std.proofs.Common.{◌∙◌}
use Rattle.pgo_places.proofs.access.element.Goals as goal

pub returns : goal.returns
returns c = c.number.ensures ∙ c.args.frame.are_among c.args.global.now c.args.index.now
