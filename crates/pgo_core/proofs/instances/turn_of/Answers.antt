use Rattle.std.proofs.Common.{refl}
use Rattle.pgo_core.proofs.Indexed.{nth_read}
use Rattle.pgo_core.proofs.instances.turn_of.Goals as goal

pub turn-requires-clause-met : goal.turn-requires-clause-met
turn-requires-clause-met g c =
    let vs = c.args.workers.now in c.requires.met c.index_mut.result.now (nth_read vs.items _ c.args.k c.index_mut.result.now vs.ok.0 c.requires.inside c.index_mut.ensures.value)

pub returns-clause-turned : goal.returns-clause-turned
returns-clause-turned g c =
    let vs = c.args.workers.now in
    record {
      worker = c.index_mut.result.now;
      after = c.turn.new.self;
      there = nth_read vs.items _ c.args.k c.index_mut.result.now vs.ok.0 c.requires.inside c.index_mut.ensures.value;
      workers = refl;
      same = c.turn.ensures.same;
      turned = c.turn.ensures.turned;
      met = c.turn.ensures.met;
    }
