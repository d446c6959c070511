use Rattle.std.proofs.Common.{Some, inl, refl, ap}
use Rattle.pgo_front.proofs.ended.Ended.as_no_bundle.Goals as goal

pub returns-in-Ok : goal.returns-in-Ok
returns-in-Ok c = inl (refl, ap Some c.in-Ok.ensures)
