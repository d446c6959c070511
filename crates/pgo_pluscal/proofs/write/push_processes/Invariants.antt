use Rattle.std.proofs.Common.{◌≡◌, ◌++◌, drop}
use Rattle.std.specs.List.{flat_map}
use Rattle.pgo_pluscal.specs.Text.{process_text}
use Rattle.pgo_pluscal.proofs.write.push_processes.Given as goal

abbrev pub invariant-loop-process : goal.invariant-loop-process
invariant-loop-process l = l.bytes.items ++ flat_map process_text (drop l.process-index l.processes) ≡ l.initial.bytes.items ++ flat_map process_text l.processes
