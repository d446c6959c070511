use Rattle.pgo_table.proofs.Cuts.{place_is}
use Rattle.std.proofs.Common.{sym}
use Rattle.pgo_shared.proofs.instance_seat.place_of.Goals as goal

pub returns-then-x-r-clause-first : goal.returns-then-x-r-clause-first
returns-then-x-r-clause-first c = sym (place_is c.args.held.now c.loop-i.i c.args.r c.loop-i.invariant c.loop-i-test.true c.if-x-r.true)
