-- The board of a seat shows what the seat knows; so does the seat that it ends in.
use Rattle.std.proofs.Common.{◌≡◌, refl, sym, ap}
use Rattle.pgo_resource.specs.declared.resource.Resource.{Ghosts}
use Rattle.pgo_shared.specs.SeatBoards.{shows_of, view_of}
use Rattle.pgo_shared.specs.Seats.{history_of}
use Rattle.pgo_table.specs.Seen.{Seen}
use Rattle.pgo_shared.specs.declared.seat_board.SeatBoard.{SeatBoard}
use Rattle.pgo_shared.specs.declared.seat_board.BoardSeat.{BoardSeat}

module _ {R : Type 0} {g : Ghosts R} where
  pub seat_seen : (s : SeatBoard R g) → Seen (shows_of s) (view_of s).me
  seat_seen s = record { instance = sym s.instance.numbered; entries = refl; notes = refl; told = refl }

  -- of a new board
  pub board_history : (seat : BoardSeat R g) (s : SeatBoard R g) → s.instance ≡ seat.instance → (view_of s).me ≡ history_of seat
  board_history seat s e = ap (λ z. z.seat.me.0.me) e

  -- of a board that was ended
  pub end_history : (s : SeatBoard R g) (seat : BoardSeat R g) → seat.instance ≡ s.instance → history_of seat ≡ (view_of s).me
  end_history s seat e = ap (λ z. z.seat.me.0.me) e
