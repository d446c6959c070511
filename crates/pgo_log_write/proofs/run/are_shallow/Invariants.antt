use Rattle.std.proofs.Common.{◌≡◌, drop, map}
use Rattle.pgo_base.specs.View.{data_of}
use Rattle.pgo_bundle.specs.RunLog.{are_shallow}
use Rattle.pgo_log_write.proofs.run.are_shallow.Given as goal

abbrev pub invariant-loop-v : goal.invariant-loop-v
invariant-loop-v l = are_shallow (map data_of (drop l.v-index l.values)) ≡ are_shallow (map data_of l.values)
