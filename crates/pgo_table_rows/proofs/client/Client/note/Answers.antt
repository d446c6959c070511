use Rattle.std.proofs.Common.{◌+◌, refl, sym, ◌∙◌}
use Rattle.pgo_shared.specs.SeatBoards.{layout_of_board, shows_of}
use Rattle.pgo_workers.specs.Worlds.{world_of}
use Rattle.pgo_table_rows.proofs.Knowing.{noted, not_noted}
use Rattle.pgo_table_rows.proofs.client.Client.note.Goals as goal

pub returns-in-Ok-clause-stands : goal.returns-in-Ok-clause-stands
returns-in-Ok-clause-stands c =
    let s = c.args.self.now in let b = c.note.new.self in
    record {
      layout_is = c.requires.layout_is ∙ sym c.note.ensures.layout;
      knows = noted (world_of (layout_of_board s.board)) _ c.in-Ok.position (shows_of s.board) (shows_of b) s.number s.share s.noted (s.noted + 1) s.held.items c.in-Ok.ensures.ok refl refl c.requires.knows;
    }

pub returns-in-Err-clause-stands : goal.returns-in-Err-clause-stands
returns-in-Err-clause-stands c =
    let s = c.args.self.now in let b = c.note.new.self in
    record {
      layout_is = c.requires.layout_is ∙ sym c.note.ensures.layout;
      knows = not_noted (world_of (layout_of_board s.board)) c.in-Err.refused.refusal (shows_of s.board) (shows_of b) s.number s.share s.noted s.held.items c.in-Err.ensures.err.1 c.requires.knows;
    }
