use Rattle.std.proofs.Common.{ap}
use Rattle.std.specs.Prelude.{Some}
use Rattle.pgo_base.specs.Data.{boolean, members-items}
use Rattle.pgo_sets.proofs.lookup.subset.Goals as goal

pub returns-in-Set-Set : goal.returns-in-Set-Set
returns-in-Set-Set c = rw (c.in-Set-Set.is-0, c.in-Set-Set.is-1, members-items, members-items) (ap (λ b. Some (boolean b)) c.includes.ensures)
