use Rattle.std.proofs.Common.{◌≡◌}
use Rattle.pgo_resource.specs.PlainBoards.{board_layout, shows_of}
use Rattle.pgo_section.specs.Turns.{Met}
use Rattle.pgo_workers.specs.Worlds.{layout_of}
use Rattle.pgo_turn_rows.proofs.steps.steps.Given as goal

abbrev pub invariant-loop-word : goal.invariant-loop-word
invariant-loop-word g l =
    (goal.iterator-loop-word g).can_next l.word-iterator
    × (goal.iterator-loop-word g).is_finite l.word-iterator
    × (board_layout l.board ≡ layout_of (g.S.Sections.system l.sections))
    × Met (g.S.Sections.system l.sections) (g.S.Sections.tree l.sections) (g.S.Sections.walk l.sections) l.worker (shows_of l.board)
