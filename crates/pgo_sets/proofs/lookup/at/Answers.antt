use Rattle.pgo_base.specs.Data.{graph-pairs}
use Rattle.pgo_sets.proofs.lookup.at.Goals as goal

pub returns-in-Fun : goal.returns-in-Fun
returns-in-Fun c = rw (c.in-Fun.is, graph-pairs) c.value_at.ensures
