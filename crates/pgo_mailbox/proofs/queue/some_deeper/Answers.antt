use Rattle.std.proofs.Common.{refl, arith, ◌<◌, length}
use Rattle.pgo_base.specs.Size.{depth}
use Rattle.pgo_base.specs.View.{data_of}
use Rattle.pgo_mailbox.proofs.QueueLaws.{deeper_step, not_so}
use Rattle.pgo_mailbox.proofs.queue.some_deeper.Goals as goal

pub returns-then-is_deeper : goal.returns-then-is_deeper
returns-then-is_deeper c =
    let xs = c.args.messages.now.items in let v = c.index.result.now in
    let h : c.loop-i.i < length xs = omega (arith, c.loop-i-test.true, c.len-i-end.ensures, c.args.messages.now.ok.0) in
    let step = deeper_step xs c.loop-i.i v h c.index.ensures in
    let deep : c.args.limit < depth (data_of v) = c.is_deeper.ensures.0 c.if-is_deeper.true in
    (λ t. omega (arith, deep, step, c.loop-i.invariant.above), λ k. refl)

pub loop-i-preserved : goal.loop-i-preserved
loop-i-preserved c =
    let xs = c.args.messages.now.items in let v = c.index.result.now in
    let h : c.loop-i.i < length xs = omega (arith, c.loop-i-test.true, c.len-i-end.ensures, c.args.messages.now.ok.0) in
    let step = deeper_step xs c.loop-i.i v h c.index.ensures in
    let shallow = not_so c.is_deeper.result c.if-is_deeper.false c.is_deeper.ensures in
    record { below = omega (arith, shallow, step, c.loop-i.invariant.below); above = omega (arith, step, c.loop-i.invariant.above) }
