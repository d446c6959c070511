use Rattle.std.proofs.Common.{arith}
use Rattle.pgo_pluscal.proofs.Room.{closed_one}
use Rattle.pgo_pluscal.proofs.steps.push_closings.Goals as goal

pub loop-left-preserved : goal.loop-left-preserved
loop-left-preserved c = (
  closed_one c.args.level c.loop-left.left c.loop-left.bytes.items c.push_line.new.bytes.items _ (omega arith) c.in_ok-push_line.ensures c.loop-left.invariant.0,
  omega arith,
)
