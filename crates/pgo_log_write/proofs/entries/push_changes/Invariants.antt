use Rattle.std.proofs.Common.{◌≡◌, ◌++◌, drop, map}
use Rattle.pgo_model.specs.LogView.{change_view}
use Rattle.pgo_model.specs.Bundle.{change_line}
use Rattle.pgo_model.specs.ModuleText.{flatten}
use Rattle.pgo_log_write.proofs.entries.push_changes.Given as goal

abbrev pub invariant-loop-change : goal.invariant-loop-change
invariant-loop-change l = l.bytes.items ++ flatten (map change_line (map change_view (drop l.change-index l.changes))) ≡ l.initial.bytes.items ++ flatten (map change_line (map change_view l.changes))
