use Rattle.std.proofs.Common.{sym, ◌∙◌}
use Rattle.pgo_shared.specs.SeatBoards.{shows_of}
use Rattle.pgo_table_rows.proofs.Knowing.{is_held}
use Rattle.pgo_table_rows.proofs.client.Client.read.Goals as goal

pub value_of-requires : goal.value_of-requires
value_of-requires c =
    let s = c.args.self.now in is_held (shows_of s.board) s.number s.share s.noted s.held.items c.args.r c.requires.knows (sym c.holds.ensures ∙ c.if-not-holds.false)
