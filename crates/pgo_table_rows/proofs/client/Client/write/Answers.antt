use Rattle.std.proofs.Common.{sym, ◌∙◌}
use Rattle.pgo_shared.specs.SeatBoards.{shows_of}
use Rattle.pgo_table_rows.proofs.Knowing.{is_held, wrote}
use Rattle.pgo_table_rows.proofs.client.Client.write.Goals as goal

pub put_number-requires : goal.put_number-requires
put_number-requires c =
    let s = c.args.self.now in is_held (shows_of s.board) s.number s.share s.noted s.held.items c.args.r c.requires.knows (sym c.holds.ensures ∙ c.if-not-holds.false)

pub returns-clause-stands : goal.returns-clause-stands
returns-clause-stands c =
    let s = c.args.self.now in let b = c.put_number.new.board in
    record {
      layout_is = c.requires.layout_is ∙ sym c.put_number.ensures.layout;
      knows = wrote c.args.r (shows_of s.board) (shows_of b) s.number s.share s.noted s.held.items (sym c.holds.ensures ∙ c.if-not-holds.false) c.put_number.ensures.shows c.requires.knows;
    }
