use Rattle.std.proofs.Common.{refl}
use Rattle.pgo_core.proofs.Indexed.{nth_read}
use Rattle.pgo_core.proofs.instances.stop_of.Goals as goal

pub stop-requires-clause-met : goal.stop-requires-clause-met
stop-requires-clause-met g c =
    let vs = c.args.workers.now in c.requires.met c.index_mut.result.now (nth_read vs.items _ c.args.k c.index_mut.result.now vs.ok.0 c.requires.inside c.index_mut.ensures.value)

pub returns-clause-stopped : goal.returns-clause-stopped
returns-clause-stopped g c =
    let vs = c.args.workers.now in
    record {
      worker = c.index_mut.result.now;
      after = c.stop.new.self;
      there = nth_read vs.items _ c.args.k c.index_mut.result.now vs.ok.0 c.requires.inside c.index_mut.ensures.value;
      workers = refl;
      keeps = c.stop.ensures.keeps;
      records = c.stop.ensures.records;
      held = c.stop.ensures.nothing;
      met = c.stop.ensures.met;
    }
