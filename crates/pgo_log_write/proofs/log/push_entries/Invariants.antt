use Rattle.std.proofs.Common.{◌≡◌, ◌++◌, drop, map, suc}
use Rattle.pgo_bundle.specs.Lines.{all_logged_lines}
use Rattle.pgo_bundle.specs.View.{logged_entry_view}
use Rattle.pgo_model.specs.ModuleText.{flatten}
use Rattle.pgo_log_write.proofs.log.push_entries.Given as goal

abbrev pub invariant-loop-i : goal.invariant-loop-i
invariant-loop-i l = l.bytes.items ++ flatten (all_logged_lines (suc l.i) (map logged_entry_view (drop l.i l.entries))) ≡ l.initial.bytes.items ++ flatten (all_logged_lines 1 (map logged_entry_view l.entries))
