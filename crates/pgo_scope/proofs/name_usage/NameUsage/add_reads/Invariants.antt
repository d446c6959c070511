-- What the loop keeps: the usage so far and what is left are the whole.
use Rattle.std.proofs.Common.{◌≡◌, drop}
use Rattle.pgo_base.specs.Lookup.{Name}
use Rattle.pgo_scope.specs.NameUsage.{usage_of}
use Rattle.pgo_scope.specs.Usage.{reads_from}
use Rattle.pgo_scope.proofs.name_usage.NameUsage.add_reads.Given as goal

abbrev pub invariant-loop-u : goal.invariant-loop-u
invariant-loop-u l = (p : Name) → reads_from (usage_of l.self p) p (drop l.u-index l.uses) ≡ reads_from (usage_of l.initial.self p) p l.uses
