use Rattle.std.proofs.Common.{◌≡◌, ◌++◌, ◌+◌, ◌≤◌, List, length, vec_capacity}
use Rattle.pgo_shared.specs.declared.seat_board.SeatBoard.{SeatBoard}
use Rattle.pgo_threads.specs.declared.jobs.Job.{Job}
use Rattle.pgo_joined.specs.JoinedRuns.{AreEnded}
use Rattle.pgo_run_all.proofs.ending.ended.Given as goal

abbrev pub invariant-loop-job : goal.invariant-loop-job
invariant-loop-job g l = record {
  so_far : (done : List (Job g.row.P.Denot (SeatBoard g.row.R.Denot g.R.Resource) g.row.R.Denot)) × (l.fn.jobs.items ≡ done ++ l.job-iterator.rest.items) × AreEnded done l.workers.items l.seats.items;
  count : (length l.workers.items + length l.job-iterator.rest.items ≡ length l.fn.jobs.items) × (length l.seats.items ≡ length l.workers.items);
  room : (length l.fn.jobs.items ≤ vec_capacity l.workers) × (length l.fn.jobs.items ≤ vec_capacity l.seats);
}
