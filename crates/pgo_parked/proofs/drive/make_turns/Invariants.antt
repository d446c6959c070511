use Rattle.std.proofs.Common.{◌≡◌}
use Rattle.pgo_section.specs.Turns.{Met}
use Rattle.pgo_threads.proofs.Turns.{SoFar}
use Rattle.pgo_parked.proofs.drive.make_turns.Given as goal

abbrev pub invariant-loop-turn : goal.invariant-loop-turn
invariant-loop-turn g l = record {
  layout : g.B.Board.layout l.board ≡ g.B.Board.layout l.fn.board;
  stays : g.B.Board.stays l.fn.board l.board;
  met : Met (g.S.Sections.system l.fn.sections) (g.S.Sections.tree l.fn.sections) (g.S.Sections.walk l.fn.sections) l.worker (g.B.Board.shows l.board);
  far : SoFar (g.S.Sections.system l.fn.sections) (g.S.Sections.tree l.fn.sections) (g.S.Sections.walk l.fn.sections) l.fn.worker (g.B.Board.shows l.fn.board) l.worker (g.B.Board.shows l.board);
}
