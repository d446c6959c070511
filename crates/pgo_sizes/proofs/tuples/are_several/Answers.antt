use Rattle.pgo_sizes.proofs.Several.{several}
use Rattle.pgo_sizes.proofs.tuples.are_several.Goals as goal

pub returns : goal.returns
returns c = several c.as_slice.result.now c.args.list.now c.as_slice.ensures
