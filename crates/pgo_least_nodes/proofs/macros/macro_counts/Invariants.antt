use Rattle.std.proofs.Common.{◌≡◌, drop}
use Rattle.pgo_least_nodes.specs.Counts.{counts_with, macro_counts}
use Rattle.pgo_least_nodes.proofs.macros.macro_counts.Given as goal

abbrev pub invariant-loop-m : goal.invariant-loop-m
invariant-loop-m l = counts_with l.counts (drop l.m-index l.macros) ≡ macro_counts l.macros
