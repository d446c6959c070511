-- The law.
use Rattle.pgo_spec_text.proofs.Exact.{one_pair}
use Rattle.pgo_spec_text.proofs.parts.one_pair.Goals as goal

pub returns : goal.returns
returns c = one_pair
