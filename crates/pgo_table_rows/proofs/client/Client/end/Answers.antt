use Rattle.std.proofs.Common.{◌≡◌, length, ap, sym, ◌∙◌, arith}
use Rattle.std.specs.Prelude.{vec_len}
use Rattle.pgo_shared.specs.SeatBoards.{shows_of}
use Rattle.pgo_table_rows.proofs.Knowing.{nothing_held}
use Rattle.pgo_table_rows.proofs.client.Client.end.Goals as goal

pub end-requires : goal.end-requires
end-requires c =
    let s = c.args.self in
    let none : vec_len s.held ≡ 0 = grind (arith, c.requires.nothing) in
    record { free = nothing_held (shows_of s.board).held (ap length c.requires.stands.knows.listed ∙ sym s.held.ok.0 ∙ none) }
