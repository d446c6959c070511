-- What the loop keeps: the entries that are left lead to the same states, and what is kept are states of the log.
use Rattle.std.proofs.Common.{◌≡◌, ◌+◌, ℕ, map, drop}
use Rattle.pgo_bundle.specs.View.{logged_entry_view}
use Rattle.pgo_model.specs.Log.{StateAt}
use Rattle.pgo_show_text.specs.Facts as spec
use Rattle.pgo_show_text.specs.Walks.{AreStates}
use Rattle.pgo_show_text.proofs.walk.walk_over.Given as goal

abbrev pub invariant-loop-count : goal.invariant-loop-count
invariant-loop-count l = record {
  last : spec.behind_all l.start (map (λ e. e.entry) (map logged_entry_view l.entries))
      ≡ spec.behind_all l.state (map (λ e. e.entry) (map logged_entry_view (drop l.count l.entries)));
  ahead : (n : ℕ) → StateAt l.start (map (λ e. e.entry) (map logged_entry_view l.entries)) (l.count + n)
      ≡ StateAt l.state (map (λ e. e.entry) (map logged_entry_view (drop l.count l.entries))) n;
  kept : AreStates l.start (map (λ e. e.entry) (map logged_entry_view l.entries)) l.kept;
}
