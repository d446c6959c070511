use Rattle.pgo_base.specs.Data.{members-items}
use Rattle.pgo_sets.proofs.lookup.is_subset_of.Goals as goal

pub returns-in-Set : goal.returns-in-Set
returns-in-Set c = rw (c.in-Set.is, members-items) c.includes.ensures
