use Rattle.pgo_mpcal_read.proofs.Spelled.{one_text}
use Rattle.pgo_mpcal_read.proofs.reader.one_spec.Goals as goal

pub returns : goal.returns
returns c = one_text c.one_pair.ensures
