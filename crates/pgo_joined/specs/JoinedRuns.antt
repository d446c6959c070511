-- A run of jobs on threads over one table: what its opening, the jobs, the ends of their boards and its closing say of it, as lists by index.
use Rattle.std.specs.Prelude.{◌≡◌, ◌<◌, ℕ, zero, suc, false, List, [], ◌∷◌, length, map, Some, None, slice_index_or, if◌then◌else◌, nat_eq}
use Rattle.pgo_model.specs.Core.{Settings}
use Rattle.pgo_model.specs.Log.{Effect}
use Rattle.pgo_model.specs.Machine.{Entry, Note}
use Rattle.pgo_model.specs.System.{System}
use Rattle.pgo_resource.specs.declared.resource.Resource.{Ghosts}
use Rattle.pgo_syntax.specs.RecordView.{settings_view}
use Rattle.pgo_workers.specs.View.{Told, View}
use Rattle.pgo_workers.specs.Walk.{Walk}
use Rattle.pgo_workers.specs.Worker as spec
use Rattle.pgo_workers.specs.Worlds.{layout_of, world_of}
use Rattle.pgo_section.specs.Programs.{Trees}
use Rattle.pgo_section.specs.Sight.{see}
use Rattle.pgo_section.specs.declared.worker.Worker.{Worker}
use Rattle.pgo_table.specs.Closing.{IsClosed}
use Rattle.pgo_table.specs.Seen.{Seen, at_rest}
use Rattle.pgo_table.specs.SeatViews.{History, untold}
use Rattle.pgo_shared.specs.SeatBoards.{layout_of_board, shows_of, stays_of, table_of}
use Rattle.pgo_shared.specs.Seats.{AllAreOf, IsFreshSeat, IsOf, history_of}
use Rattle.pgo_shared.specs.Tables.{terms_of}
use Rattle.pgo_shared.specs.declared.seat_board.BoardSeat.{BoardSeat}
use Rattle.pgo_shared.specs.declared.seat_board.SeatBoard.{SeatBoard}
use Rattle.pgo_shared.specs.declared.shared.Shared.{Shared}
use Rattle.pgo_threads.specs.Drives.{FitsJob, HasWorked}
use Rattle.pgo_threads.specs.declared.jobs.Job.{Job}

-- what was told under a number; nothing where it is nobody's
abbrev pub told_under : List History → ℕ → Told
told_under [] k = untold
told_under (a ∷ l) k = if nat_eq a.number k then a.told else told_under l k

-- of member k, and beyond the last this
abbrev pub at_or : {A B : Type 0} → (A → B) → B → List A → ℕ → B
at_or f d [] k = d
at_or f d (x ∷ l) zero = f x
at_or f d (x ∷ l) (suc k) = at_or f d l k

-- beyond the last instance
abbrev pub nobody : spec.Worker
nobody = record { number = 0; records = []; own = []; phase = spec.Resting; taken = []; dropped = false }

abbrev pub no_board : View Effect
no_board = record { instance = 0; resources = 0; steps = 0; share = 0; held = []; entries = []; notes = []; told = Some untold; last = None }

-- the workers by number, as the law of closed runs takes them
abbrev pub workers_of : {C : Type 0} → (C → Walk) → List (Worker C) → ℕ → spec.Worker
workers_of walk = at_or (λ w. see walk w) nobody

-- what the seats were told, by number
abbrev pub told_by : {R : Type 0} → {g : Ghosts R} → List (BoardSeat R g) → ℕ → Told
told_by seats = told_under (map history_of seats)

-- what `Shared::close` asks of the seats
abbrev pub MayClose : {R : Type 0} → {g : Ghosts R} → Shared R → List (BoardSeat R g) → Type 0
MayClose shared seats = (length seats ≡ length (terms_of shared).layout.ids) × AllAreOf shared seats

-- what it says of the journal
abbrev pub IsClosedBy : {R : Type 0} → {g : Ghosts R} → Shared R → List (BoardSeat R g) → List (Entry Effect) → List Note → Type 0
IsClosedBy shared seats entries notes = IsClosed (world_of (terms_of shared).layout) (terms_of shared) entries notes (map history_of seats)

module _ {C R : Type 0} {g : Ghosts R} where
  -- the boards by number
  abbrev pub boards_of : List (Job C (SeatBoard R g) R) → ℕ → View Effect
  boards_of = at_or (λ j. shows_of j.board) no_board

  -- none has failed, and these are their workers and the seats of their boards, in their order
  pub record AreEnded (jobs : List (Job C (SeatBoard R g) R)) (workers : List (Worker C)) (seats : List (BoardSeat R g)) : Type 0 where
    pub fine : (k : ℕ) (d : Job C (SeatBoard R g) R) → k < length jobs → (slice_index_or jobs k d).failed ≡ false
    pub workers_are : workers ≡ map (λ (j : Job C (SeatBoard R g) R). j.worker) jobs
    pub as_many : length seats ≡ length jobs
    pub seats_are : (k : ℕ) (d : Job C (SeatBoard R g) R) (s : BoardSeat R g) → k < length jobs → IsOf (table_of (slice_index_or jobs k d).board) (slice_index_or seats k s) × Seen (shows_of (slice_index_or jobs k d).board) (history_of (slice_index_or seats k s))

  module _ (y : System) (tree : Trees) (walk : C → Walk) (settings : Settings) (shared : Shared R) where
    -- the job of instance k before it runs, over the board of a seat of this table that has done nothing
    pub record IsNewJob (k : ℕ) (j : Job C (SeatBoard R g) R) : Type 0 where
      pub number : j.worker.number ≡ k
      pub settings_are : settings_view j.worker.settings ≡ settings
      pub fits : FitsJob y tree walk layout_of_board shows_of j.worker j.board
      pub seat : BoardSeat R g
      pub fresh : IsFreshSeat shared k seat
      pub table : table_of j.board ≡ shared
      pub shows : shows_of j.board ≡ at_rest (terms_of shared) (history_of seat)

    -- a job for each instance, over a table that was opened for this system and these settings; and the jobs once they have run
    pub record HaveWorked (jobs after : List (Job C (SeatBoard R g) R)) : Type 0 where
      pub layout_is : (terms_of shared).layout ≡ layout_of y
      pub steps_are : (terms_of shared).steps ≡ settings.steps
      pub many : length jobs ≡ length y.members
      pub new : (k : ℕ) (d : Job C (SeatBoard R g) R) → k < length jobs → IsNewJob k (slice_index_or jobs k d)
      pub as_many : length after ≡ length jobs
      pub worked : (k : ℕ) (d : Job C (SeatBoard R g) R) → k < length jobs → HasWorked y tree walk layout_of_board shows_of stays_of (slice_index_or jobs k d).worker (slice_index_or jobs k d).board (slice_index_or after k d).worker (slice_index_or after k d).board (slice_index_or after k d).failed
