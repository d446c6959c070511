use Rattle.std.proofs.Common.{◌∙◌, sym}
use Rattle.pgo_section.proofs.Keeping.{no_held, same_both}
use Rattle.pgo_section.proofs.worker.Worker.run_out.Goals as goal

pub returns-clause-same : goal.returns-clause-same
returns-clause-same g c =
    let s = same_both c.args.self.now c.drop_attempt.new.self c.give_all.new.self c.drop_attempt.ensures.keeps.same c.give_all.ensures.keeps.same in
    record { number = s.number; settings = s.settings; records_room = s.records_room; taken_room = s.taken_room; told = s.told }

pub returns-clause-nothing : goal.returns-clause-nothing
returns-clause-nothing g c = no_held (g.B.Board.shows c.give_all.new.board).held (sym c.give_all.ensures.nothing ∙ c.give_all.ensures.met.meets.taken)

pub returns-clause-stays : goal.returns-clause-stays
returns-clause-stays g c = g.met.B.Board.stays_on c.args.board.now c.drop_attempt.new.board c.give_all.new.board c.drop_attempt.ensures.stays c.give_all.ensures.stays
