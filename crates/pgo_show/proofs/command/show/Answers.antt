use Rattle.pgo_show.specs.Streams.{around}
use Rattle.pgo_show.proofs.Promised.{promised}
use Rattle.pgo_show.proofs.command.show.Goals as goal

pub returns : goal.returns
returns g c =
    let m = c.make-made.ensures in
    promised c.args.words.now (around g.S.Source.left g.S.Source.faults c.args.input.now c.make-made.new.input)
    (around g.O.Sink.held g.O.Sink.faults c.args.out.now c.write_end-ended.new.out) (around g.E.Sink.held g.E.Sink.faults c.args.err.now c.say.new.err)
    c.write_end-ended.result m.unread c.say.ensures.says c.say.ensures.says_own c.say.ensures.silent
    c.make-made.result c.write_end-ended.ensures m.asks m.ok m.err m.line m.ended m.steady m.failed m.ended_refused
