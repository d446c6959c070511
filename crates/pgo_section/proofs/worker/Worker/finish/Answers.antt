use Rattle.std.proofs.Common.{refl}
use Rattle.pgo_section.proofs.ManyTold.{one_more}
use Rattle.pgo_section.proofs.worker.Worker.finish.Goals as goal

pub returns-clause-keeps : goal.returns-clause-keeps
returns-clause-keeps g c = record {
  same = record {
    number = refl;
    settings = refl;
    records_room = c.push_reserved.ensures.capacity;
    taken_room = refl;
    told = λ h. one_more c.args.self.now.records.items c.push_reserved.new.self.items c.args.told c.push_reserved.ensures.items h c.requires.many;
  };
  out = refl;
}
