use Rattle.std.proofs.Common.{◌≡◌, ◌≤◌, map, drop, length}
use Rattle.pgo_workers.specs.Worker.{changes_of}
use Rattle.pgo_workers.specs.Worlds.{changed_resources}
use Rattle.pgo_section.specs.Folds.{at_of}
use Rattle.pgo_section.proofs.changes.changed_values.Given as goal

abbrev pub invariant-loop-left : goal.invariant-loop-left
invariant-loop-left g l = record {
  system : g.B.Board.layout l.board ≡ g.B.Board.layout l.fn.board;
  stays : g.B.Board.stays l.fn.board l.board;
  moved : g.B.Board.moved l.board ≡ g.B.Board.moved l.fn.board;
  shows : g.B.Board.shows l.board ≡ g.B.Board.shows l.fn.board;
  left : l.left ≤ length l.fn.taken.items;
  values : map at_of l.values.items ≡ changed_resources (changes_of (drop l.left (g.B.Board.shows l.fn.board).held));
}

abbrev pub decreases-loop-left : goal.decreases-loop-left
decreases-loop-left g l = l.left
