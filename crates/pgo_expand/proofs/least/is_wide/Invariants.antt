use Rattle.std.proofs.Common.{◌≤◌, ◌+◌, drop}
use Rattle.std.specs.List.{flat_map}
use Rattle.pgo_meaning.specs.Expansions.{process_expansions, trees_of}
use Rattle.pgo_expand.specs.Limits.{nodes_in}
use Rattle.pgo_expand.proofs.least.is_wide.Given as goal

abbrev pub invariant-loop-process : goal.invariant-loop-process
invariant-loop-process l = l.least + nodes_in (flat_map (process_expansions l.spec) (drop l.process-index l.process-items)) ≤ nodes_in (trees_of l.spec)
