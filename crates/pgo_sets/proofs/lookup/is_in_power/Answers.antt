use Rattle.std.proofs.Common.{ap}
use Rattle.std.specs.Prelude.{Some}
use Rattle.pgo_base.specs.Data.{members-items}
use Rattle.pgo_sets.proofs.lookup.is_in_power.Goals as goal

pub returns-in-Set : goal.returns-in-Set
returns-in-Set c = rw (c.in-Set.is, members-items) (ap Some c.is_subset_of.ensures)
