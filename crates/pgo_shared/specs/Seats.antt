-- A table and its seats, as contracts see them.
use Rattle.std.specs.Prelude.{◌≡◌, ℕ, ◌<◌, List, length, slice_index_or}
use Rattle.pgo_resource.specs.declared.resource.Resource.{Ghosts}
use Rattle.pgo_table.specs.SeatViews.{History, WordStep, no_history}
use Rattle.pgo_shared.specs.Tables.{terms_of}
use Rattle.pgo_shared.specs.declared.seat_board.BoardSeat.{BoardSeat}
use Rattle.pgo_shared.specs.declared.shared.Shared.{Shared}

module _ {R : Type 0} {g : Ghosts R} where
  -- what is known under the seat's number
  abbrev pub history_of : BoardSeat R g → History
  history_of seat = seat.instance.seat.me.0.me

  -- its steps at words, in order
  abbrev pub word_steps_of : BoardSeat R g → List WordStep
  word_steps_of seat = seat.instance.seat.me.0.word_steps

  -- the seat is one of this table
  abbrev pub IsOf : Shared R → BoardSeat R g → Type 0
  IsOf shared seat = (seat.instance.seat.table_id ≡ shared.table.shared.table_id) × (seat.instance.seat.me.0.terms ≡ terms_of shared)

  -- and it has this number, and has done nothing yet
  abbrev pub IsFreshSeat : Shared R → ℕ → BoardSeat R g → Type 0
  IsFreshSeat shared k seat = IsOf shared seat × (history_of seat ≡ no_history k)

  abbrev pub AllAreOf : Shared R → List (BoardSeat R g) → Type 0
  AllAreOf shared seats = (k : ℕ) (d : BoardSeat R g) → k < length seats → IsOf shared (slice_index_or seats k d)
