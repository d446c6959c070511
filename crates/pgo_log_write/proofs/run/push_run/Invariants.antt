use Rattle.std.proofs.Common.{◌≡◌, ◌++◌, drop, map, suc}
use Rattle.pgo_bundle.specs.Lines.{all_logged_lines}
use Rattle.pgo_bundle.specs.PositionView.{place_view}
use Rattle.pgo_model.specs.ModuleText.{flatten}
use Rattle.pgo_log_write.specs.RunRows.{run_entries}
use Rattle.pgo_log_write.proofs.run.push_run.Given as goal

abbrev pub invariant-loop-i : goal.invariant-loop-i
invariant-loop-i l =
    l.bytes.items ++ flatten (all_logged_lines (suc l.i) (run_entries (suc l.i) (map place_view l.places) (drop l.i l.journal.entries)))
    ≡ l.initial.bytes.items ++ flatten (all_logged_lines 1 (run_entries 1 (map place_view l.places) l.journal.entries))
