use Rattle.pgo_scope.proofs.Clashing.{none_there}
use Rattle.pgo_scope.proofs.clash.add_clash_at.Goals as goal

pub returns-in-None-get : goal.returns-in-None-get
returns-in-None-get c = none_there c.args.out.now.items c.args.before.now c.args.t.now c.args.place c.in-Some.i c.in-Some.is c.in-None-get.ensures.lookup.3
