use Rattle.std.proofs.Common.{ap, sym}
use Rattle.std.specs.Prelude.{Some}
use Rattle.pgo_base.specs.Data.{members-items}
use Rattle.pgo_sets.proofs.lookup.as_set.Goals as goal

pub returns-in-Set : goal.returns-in-Set
returns-in-Set c = rw (c.in-Set.is) (ap Some (sym (members-items c.in-Set.set)))
