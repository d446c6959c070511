use Rattle.std.proofs.Common.{◌≡◌, drop}
use Rattle.pgo_workers.specs.View.{resources_of}
use Rattle.pgo_workers.specs.Worker.{with_held}
use Rattle.pgo_section.specs.Folds.{change_all, commit_it}
use Rattle.pgo_section.proofs.contents.commit_all.Given as goal

abbrev pub invariant-loop-index : goal.invariant-loop-index
invariant-loop-index g l = record {
  system : g.B.Board.layout l.board ≡ g.B.Board.layout l.fn.board;
  stays : g.B.Board.stays l.fn.board l.board;
  moved : g.B.Board.moved l.board ≡ g.B.Board.moved l.fn.board;
  shows : g.B.Board.shows l.board ≡ with_held (g.B.Board.shows l.board).held (g.B.Board.shows l.fn.board);
  resources : resources_of (g.B.Board.shows l.board).held ≡ l.fn.taken.items;
  fold : change_all commit_it (drop l.index l.fn.taken.items) (g.B.Board.shows l.board).held ≡ change_all commit_it l.fn.taken.items (g.B.Board.shows l.fn.board).held;
}
