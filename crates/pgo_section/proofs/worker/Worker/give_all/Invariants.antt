use Rattle.std.proofs.Common.{◌≡◌, [], false, length}
use Rattle.pgo_section.specs.Turns.{Keeps, Met}
use Rattle.pgo_section.proofs.worker.Worker.give_all.Given as goal

abbrev pub invariant-loop-self : goal.invariant-loop-self
invariant-loop-self g l = record {
  keeps : Keeps l.fn.self l.self;
  layout : g.B.Board.layout l.board ≡ g.B.Board.layout l.fn.board;
  stays : g.B.Board.stays l.fn.board l.board;
  records : l.self.records ≡ l.fn.self.records;
  giving : l.self.giving ≡ false → l.self.taken.items ≡ [];
  met : Met (g.S.Sections.system l.fn.sections) (g.S.Sections.tree l.fn.sections) (g.S.Sections.walk l.fn.sections) l.self (g.B.Board.shows l.board);
}

abbrev pub decreases-loop-self : goal.decreases-loop-self
decreases-loop-self g l = length l.self.taken.items
