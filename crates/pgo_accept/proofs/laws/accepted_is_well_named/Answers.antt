use Rattle.pgo_accept.proofs.Accepted.{accepted_well_named}
use Rattle.pgo_accept.proofs.laws.accepted_is_well_named.Goals as goal

pub returns : goal.returns
returns c = accepted_well_named
