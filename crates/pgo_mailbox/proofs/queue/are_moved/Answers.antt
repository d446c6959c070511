use Rattle.std.proofs.Common.{arith, length, ◌<◌, ◌+◌}
use Rattle.std.proofs.lemmas.List.{length-map}
use Rattle.pgo_base.specs.View.{data_of}
use Rattle.pgo_mailbox.proofs.QueueLaws.{moved_here, moved_more, differ_by, same_by}
use Rattle.pgo_mailbox.proofs.queue.are_moved.Goals as goal

pub returns-then-not-is_eq-clause-other : goal.returns-then-not-is_eq-clause-other
returns-then-not-is_eq-clause-other c = λ t e.
    let xs = c.args.messages.now.items in let v = c.index.result.now in let w = c.index-in-loop-i.result.now in
    let h : c.loop-i.i + c.args.taken < length xs = omega (arith, c.loop-i-test.true, c.requires, length-map xs data_of) in
    moved_here xs c.loop-i.i c.args.count c.args.taken v w c.loop-i-test.true h c.index.ensures c.index-in-loop-i.ensures
    (differ_by c.compare.result c.is_eq.result (data_of v) (data_of w) c.is_eq.ensures c.compare.ensures c.if-not-is_eq.true) e

pub loop-i-preserved : goal.loop-i-preserved
loop-i-preserved c =
    let xs = c.args.messages.now.items in let v = c.index.result.now in let w = c.index-in-loop-i.result.now in
    let h : c.loop-i.i + c.args.taken < length xs = omega (arith, c.loop-i-test.true, c.requires, length-map xs data_of) in
    moved_more xs c.loop-i.i c.args.taken v w h c.index.ensures c.index-in-loop-i.ensures
    (same_by c.compare.result c.is_eq.result (data_of v) (data_of w) c.is_eq.ensures c.compare.ensures c.if-not-is_eq.false) c.loop-i.invariant
