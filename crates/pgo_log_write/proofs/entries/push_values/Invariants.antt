use Rattle.std.proofs.Common.{◌≡◌, ◌++◌, drop, map}
use Rattle.pgo_base.specs.View.{named_data}
use Rattle.pgo_model.specs.Bundle.{value_line}
use Rattle.pgo_model.specs.ModuleText.{flatten}
use Rattle.pgo_log_write.proofs.entries.push_values.Given as goal

abbrev pub invariant-loop-p : goal.invariant-loop-p
invariant-loop-p l = l.bytes.items ++ flatten (map value_line (map named_data (drop l.p-index l.values))) ≡ l.initial.bytes.items ++ flatten (map value_line (map named_data l.values))
