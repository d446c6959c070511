use Rattle.std.proofs.Common.{arith}
use Rattle.pgo_eval.proofs.Starts.{start_more, start_all, started}
use Rattle.pgo_eval.proofs.choice.start_all.Goals as goal

pub loop-i-preserved : goal.loop-i-preserved
loop-i-preserved c = start_more c.args.bound.now c.loop-i.bound c.loop-i.i c.index-bound-i.result (omega arith) c.loop-i.invariant

pub returns : goal.returns
returns c =
    let s = started c.args.bound.now c.loop-i.bound c.has_empty.result (start_all c.args.bound.now c.loop-i.bound c.loop-i.i (omega arith) c.loop-i.invariant) c.has_empty.ensures in
    record { at = s.at; over = s.over; left = s.left }
