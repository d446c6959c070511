use Rattle.std.proofs.Common.{ap, sym}
use Rattle.std.specs.Prelude.{Some}
use Rattle.pgo_base.specs.Data.{members-items}
use Rattle.pgo_eval.proofs.members.set_held.Goals as goal

pub returns-in-Set : goal.returns-in-Set
returns-in-Set c = rw (c.in-Some.is, ← c.get.ensures, c.in-Set.is) (ap Some (sym (members-items c.in-Set.s)))
