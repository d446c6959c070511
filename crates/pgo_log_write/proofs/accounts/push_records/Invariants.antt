use Rattle.std.proofs.Common.{◌≡◌, ◌++◌, drop, map, suc}
use Rattle.pgo_meaning.specs.System.{resource_of}
use Rattle.pgo_model.specs.Bundle.{record_lines}
use Rattle.pgo_model.specs.ModuleText.{flatten}
use Rattle.pgo_log_write.specs.IsFinished.{record_of}
use Rattle.pgo_log_write.proofs.accounts.push_records.Given as goal

abbrev pub invariant-loop-i : goal.invariant-loop-i
invariant-loop-i l = l.bytes.items ++ flatten (record_lines (map resource_of l.resources) (suc l.i) (map record_of (drop l.i l.records))) ≡ l.initial.bytes.items ++ flatten (record_lines (map resource_of l.resources) 1 (map record_of l.records))
