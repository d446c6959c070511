-- The jobs of a run on threads, and the journal of their table once it is closed, are a closed run.
use Rattle.std.proofs.Common.{◌≡◌, ℕ, ◌<◌, ◌≤◌, List, length, map, Some, slice_index_or, refl, sym, ap, ◌∙◌, subst, arith}
use Rattle.std.proofs.lemmas.Option.{same_Some}
use Rattle.pgo_base.specs.Lookup.{Vars}
use Rattle.pgo_model.specs.Core.{Settings, Reaches}
use Rattle.pgo_model.specs.Log.{Effect}
use Rattle.pgo_model.specs.Machine.{Entry, Note}
use Rattle.pgo_model.specs.System.{System}
use Rattle.pgo_resource.specs.declared.resource.Resource.{Ghosts}
use Rattle.pgo_workers.specs.Closed.{Has}
use Rattle.pgo_workers.specs.View.{Told, View, World, Others}
use Rattle.pgo_workers.specs.Walk.{Walk}
use Rattle.pgo_workers.specs.Worker as spec
use Rattle.pgo_workers.specs.Worlds.{Layout, IsLayout, HasAll, layout_of, world_of}
use Rattle.pgo_section.specs.Programs.{Trees, IsGood, program_of}
use Rattle.pgo_section.specs.Sight.{see}
use Rattle.pgo_section.specs.Turns.{IsFresh}
use Rattle.pgo_section.specs.declared.worker.Worker.{Worker}
use Rattle.pgo_closed.specs.ClosedBoards.{HasEnded, Sees}
use Rattle.pgo_closed.specs.ClosedRuns.{ClosedRun}
use Rattle.pgo_table.specs.Closing.{IsClosed}
use Rattle.pgo_table.specs.SeatViews.{History, TableTerms, no_history, untold}
use Rattle.pgo_table.specs.Seen.{Seen, at_rest}
use Rattle.pgo_table.proofs.Worlds.{lawful}
use Rattle.pgo_shared.specs.SeatBoards.{shows_of, table_of}
use Rattle.pgo_shared.specs.Seats.{AllAreOf, IsOf, history_of}
use Rattle.pgo_shared.specs.Tables.{terms_of}
use Rattle.pgo_shared.specs.declared.seat_board.BoardSeat.{BoardSeat}
use Rattle.pgo_shared.specs.declared.seat_board.SeatBoard.{SeatBoard}
use Rattle.pgo_shared.specs.declared.shared.Shared.{Shared}
use Rattle.pgo_threads.specs.Drives.{Differing}
use Rattle.pgo_threads.specs.declared.jobs.Job.{Job}
use Rattle.pgo_threads.proofs.Ended.{has_ended_so, unused_stays}
use Rattle.pgo_joined.specs.JoinedRuns.{AreEnded, HaveWorked, IsClosedBy, IsNewJob, MayClose, boards_of, told_by, workers_of, nobody, no_board}
use Rattle.pgo_joined.proofs.Boards.{at_is, at_map, some_of, has_at, map_long, told_is, closed_boards, sees}

-- the board of a seat that has done nothing is one that a worker may be opened on
pub fresh_board : (y : System) (settings : Settings) (terms : TableTerms) (k : ℕ) (a : History) → terms.steps ≡ settings.steps → settings.attempts ≤ terms.share → a ≡ no_history k → IsFresh y settings k (at_rest terms a)
fresh_board y settings terms k a steps share is = subst (λ (z : History). IsFresh y settings k (at_rest terms z)) (sym is) record {
  instance = refl;
  steps = steps;
  share = share;
  held = refl;
  others = tt;
  other_notes = tt;
  told = λ t e. let same : untold ≡ t = same_Some untold t e in (ap (λ (t : Told). t.refused) (sym same), ap (λ (t : Told). t.takes) (sym same), ap (λ (t : Told). t.passed) (sym same));
  room = omega arith;
}

module _ {C R : Type 0} {g : Ghosts R} (y : System) (tree : Trees) (walk : C → Walk) (settings : Settings) (shared : Shared R) (jobs after : List (Job C (SeatBoard R g) R)) (workers : List (Worker C)) (seats : List (BoardSeat R g))
    (run : HaveWorked y tree walk settings shared jobs after) (ends : AreEnded after workers seats) where
  abbrev AJob : Type 0
  AJob = Job C (SeatBoard R g) R

  -- a board is still at the table
  at_table : (k : ℕ) (d : AJob) → k < length jobs → table_of (slice_index_or after k d).board ≡ shared
  at_table k d near = (run.worked k d near).stays_is ∙ (run.new k d near).table

  all_are : AllAreOf shared seats
  all_are k s near =
      let m = run.as_many in let n = ends.as_many in
      let there : k < length after = omega (arith, near, n) in
      let here : k < length jobs = omega (arith, there, m) in
      let d = some_of after k there in
      subst (λ (z : Shared R). IsOf z (slice_index_or seats k s)) (at_table k d here) (ends.seats_are k d s there).0

  -- the seats are all seats of the table
  pub may_close : MayClose shared seats
  may_close = (ends.as_many ∙ run.as_many ∙ run.many ∙ sym (map_long (λ i. i.id) y.members) ∙ ap (λ (l : Layout). length l.ids) (sym run.layout_is), all_are)

  module _ (entries : List (Entry Effect)) (notes : List Note) (asked : Differing y tree settings) (closed : IsClosedBy shared seats entries notes) where
    abbrev world : World Vars Effect
    world = world_of (layout_of y)

    abbrev program : spec.Program Vars Effect
    program = program_of y tree settings

    abbrev terms : TableTerms
    terms = terms_of shared

    abbrev histories : List History
    histories = map history_of seats

    is_closed : IsClosed world terms entries notes histories
    is_closed = subst (λ z. IsClosed (world_of z) terms entries notes histories) run.layout_is closed

    is_layout : IsLayout (layout_of y)
    is_layout = subst IsLayout run.layout_is shared.proper.0

    has_all : HasAll (layout_of y) (layout_of y).start
    has_all = subst (λ z. HasAll z z.start) run.layout_is shared.proper.1

    module _ (k : ℕ) (l : k < length y.members) where
      near : k < length jobs
      near = let m = run.many in omega (arith, l, m)

      near_after : k < length after
      near_after = let m = run.many in let n = run.as_many in omega (arith, l, m, n)

      near_seats : k < length seats
      near_seats = let m = ends.as_many in let n = near_after in omega (arith, m, n)

      abbrev some : AJob
      some = some_of after k near_after

      abbrev before : AJob
      before = slice_index_or jobs k some

      abbrev job : AJob
      job = slice_index_or after k some

      abbrev seat : BoardSeat R g
      seat = slice_index_or seats k (some_of seats k near_seats)

      worker_at : workers_of walk workers k ≡ see walk job.worker
      worker_at = ap (λ ws. workers_of walk ws k) ends.workers_are ∙ at_map (λ w. see walk w) nobody (λ (j : AJob). j.worker) after k some near_after

      board_at : boards_of after k ≡ shows_of job.board
      board_at = at_is (λ (j : AJob). shows_of j.board) no_board after k some near_after

      new : IsNewJob y tree walk settings shared k before
      new = run.new k some near

      no_entries : Others before.worker.number (shows_of before.board).entries
      no_entries = subst (Others before.worker.number) (sym (ap (λ (b : View Effect). b.entries) new.shows ∙ ap (λ (a : History). a.entries) new.fresh.1)) tt

      has_ended : HasEnded world program (Reaches y) (IsGood y) k (see walk job.worker) (shows_of job.board)
      has_ended =
          let w = run.worked k some near in
          has_ended_so y tree walk settings asked k before.worker (shows_of before.board) job.worker (shows_of job.board) new.number new.settings_are w.same
          (unused_stays y tree walk before.worker (shows_of before.board) new.fits.unused no_entries) (w.ended (ends.fine k some near_after)) w.met

      ended : HasEnded world program (Reaches y) (IsGood y) k (workers_of walk workers k) (boards_of after k)
      ended =
          subst (λ w. HasEnded world program (Reaches y) (IsGood y) k w (boards_of after k)) (sym worker_at)
          (subst (HasEnded world program (Reaches y) (IsGood y) k (see walk job.worker)) (sym board_at) has_ended)

      abbrev mine : History
      mine = history_of seat

      seen : Seen (shows_of job.board) mine
      seen = (ends.seats_are k some (some_of seats k near_seats) near_after).1

      number : mine.number ≡ k
      number = sym seen.instance ∙ has_ended.meets.instance ∙ has_ended.number

      has : Has histories mine
      has = has_at history_of seats k (some_of seats k near_seats) near_seats

      sees_at : Sees world entries notes k (boards_of after k)
      sees_at =
          subst (Sees world entries notes k) (sym board_at)
          (subst (λ n. Sees world entries notes n (shows_of job.board)) number
          (sees world program (Reaches y) (IsGood y) terms entries notes histories is_closed (HasAll (layout_of y)) (lawful (layout_of y) is_layout has_all) mine has (shows_of job.board) seen))

      tells : (boards_of after k).told ≡ Some (told_by seats k)
      tells =
          ap (λ (b : View Effect). b.told) board_at
          ∙ seen.told
          ∙ ap Some (sym (told_is world program (Reaches y) (IsGood y) terms entries notes histories is_closed mine has))
          ∙ ap (λ n. Some (told_by seats n)) number

    -- what is in hand once a table is closed is a closed run
    pub closed_run : ClosedRun world program (Reaches y) (IsGood y) entries notes (workers_of walk workers) (boards_of after) (told_by seats)
    closed_run = record {
      boards = closed_boards world program (Reaches y) (IsGood y) terms entries notes histories is_closed (sym run.steps_are) (sym asked.runs.instances);
      sees = sees_at;
      tells = tells;
      ended = ended;
    }
