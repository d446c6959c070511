-- The resources are those of the slice.
use Rattle.std.proofs.Common.{subst}
use Rattle.std.specs.Prelude.{IfOk}
use Rattle.pgo_code.specs.Elements.{AreAmong}
use Rattle.pgo_code.proofs.elements.elements_in.Goals as goal

pub returns : goal.returns
returns c = subst (λ rs. IfOk c.elements_of.result (AreAmong rs)) c.as_slice.ensures c.elements_of.ensures
