use Rattle.std.proofs.Common.{arith, ◌-◌}
use Rattle.pgo_model.specs.Choice as choice
use Rattle.pgo_resource.specs.Points.{source_of}
use Rattle.pgo_resource.proofs.Turning.{turn_answer}
use Rattle.pgo_resource.proofs.points.last_turn.Goals as goal

pub returns-then-next-word_of-clause-turned : goal.returns-then-next-word_of-clause-turned
returns-then-next-word_of-clause-turned c =
    let t = c.loop-i-test.true in
    turn_answer (choice.words_of (source_of c.args.source.now)) c.args.points.now (c.loop-i.i - 1) c.loop-i.i (record { count = 0; taken = 0 }) c.following-next.result c.word_of.result
    (omega (arith, t)) c.loop-i.invariant.0 c.loop-i.invariant.1 c.following-next.ensures c.word_of.ensures c.if-next-word_of.true
