use Rattle.pgo_uses.proofs.Counts.{count_is}
use Rattle.pgo_uses.proofs.pieces.count_of.Goals as goal

pub returns : goal.returns
returns c = count_is c.as_slice.result.now c.args.list.now c.as_slice.ensures
