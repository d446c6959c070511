use Rattle.std.proofs.Common.{◌≡◌, ◌+◌, ◌<◌, ◌≤◌, ℕ, length, Some, get_or, vec_capacity}
use Rattle.pgo_base.specs.Lookup.{Vars}
use Rattle.pgo_model.specs.Machine.{nth}
use Rattle.pgo_syntax.specs.RecordView.{settings_view}
use Rattle.pgo_workers.specs.Worlds.{layout_of, own_in}
use Rattle.pgo_shared.specs.Seats.{IsFreshSeat}
use Rattle.pgo_joined.specs.JoinedRuns.{IsNewJob}
use Rattle.pgo_run_all.proofs.opening.jobs_of.Given as goal

abbrev pub invariant-loop-own : goal.invariant-loop-own
invariant-loop-own g l = record {
  count : length l.jobs.items + length l.own-iterator.rest.items ≡ length l.fn.owns.items;
  seats_left : length l.seats.items ≡ length l.own-iterator.rest.items;
  capacity : length l.fn.owns.items ≤ vec_capacity l.jobs;
  owns : (j : ℕ) (o : Vars) → nth l.own-iterator.rest.items j ≡ Some o → o ≡ own_in (layout_of (g.S.Sections.system l.sections)) (g.S.Sections.system l.sections).start (length l.jobs.items + j);
  fresh : (j : ℕ) (d : _) → j < length l.seats.items → IsFreshSeat l.shared (length l.jobs.items + j) (get_or l.seats.items j d);
  made : (k : ℕ) (d : _) → k < length l.jobs.items → IsNewJob (g.S.Sections.system l.sections) (g.S.Sections.tree l.sections) (g.S.Sections.walk l.sections) (settings_view l.settings) l.shared k (get_or l.jobs.items k d);
}
