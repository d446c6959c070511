-- No global has an element.
use Rattle.std.proofs.Common.{ap}
use Rattle.std.specs.Prelude.{option_and_then}
use Rattle.pgo_base.specs.View.{data_of}
use Rattle.pgo_code.specs.Elements.{numbered}
use Rattle.pgo_code.proofs.elements.Elements.new.Goals as goal

pub returns : goal.returns
returns c = λ g v. ap (λ o. option_and_then (λ m. numbered m (data_of v)) o) (c.new.ensures g)
