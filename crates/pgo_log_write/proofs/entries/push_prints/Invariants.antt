use Rattle.std.proofs.Common.{◌≡◌, ◌++◌, drop, map}
use Rattle.pgo_base.specs.View.{data_of}
use Rattle.pgo_bundle.specs.Lines.{print_line}
use Rattle.pgo_model.specs.ModuleText.{flatten}
use Rattle.pgo_log_write.proofs.entries.push_prints.Given as goal

abbrev pub invariant-loop-value : goal.invariant-loop-value
invariant-loop-value l = l.bytes.items ++ flatten (map print_line (map data_of (drop l.value-index l.values))) ≡ l.initial.bytes.items ++ flatten (map print_line (map data_of l.values))
