use Rattle.std.proofs.Common.{refl, ◌∙◌, subst, arith}
use Rattle.pgo_core.specs.Cores.{RestedBelow}
use Rattle.pgo_core.proofs.RestedLists.{none_rested, one_rested}
use Rattle.pgo_core.proofs.instances.Core.stop_all.Goals as goal

pub loop-k-init : goal.loop-k-init
loop-k-init g c = record {
  safe = c.requires.safe;
  stopped = record { same = record { sections = refl; settings = refl }; journal = record { entries = λ j. refl; notes = λ j. refl }; workers = none_rested c.args.self.now.workers.items };
}

pub loop-k-preserved : goal.loop-k-preserved
loop-k-preserved g c =
    let a = c.loop-k.invariant.stopped in let s = c.stop_one.ensures.stopped in
    record {
      safe = c.stop_one.ensures.safe;
      stopped = record {
        same = record { sections = s.same.sections ∙ a.same.sections; settings = s.same.settings ∙ a.same.settings };
        journal = record { entries = λ j. s.journal.entries j ∙ a.journal.entries j; notes = λ j. s.journal.notes j ∙ a.journal.notes j };
        workers = one_rested c.loop-k.k c.args.self.now.workers.items c.loop-k.self.workers.items c.stop_one.new.self.workers.items s.worker s.after a.workers s.there s.workers s.rests;
      };
    }

pub returns-clause-stopped : goal.returns-clause-stopped
returns-clause-stopped g c =
    let a = c.loop-k.invariant.stopped in
    record {
      same = a.same;
      journal = a.journal;
      workers = subst (λ n. RestedBelow n c.args.self.now.workers.items c.loop-k.self.workers.items) (omega (arith, c.loop-k-test.false, c.loop-k.auto.k-end, c.len-k-end.ensures)) a.workers;
    }
