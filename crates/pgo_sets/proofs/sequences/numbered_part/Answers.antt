use Rattle.std.proofs.Common.{[], map, ap}
use Rattle.pgo_base.specs.View.{pair_of}
use Rattle.pgo_sets.proofs.sequences.numbered_part.Goals as goal

pub returns : goal.returns
returns c = c.in_ok-add_numbered.ensures.pairs [] (ap (map pair_of) c.in_ok-part.ensures.items)
