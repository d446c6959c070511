use Rattle.std.proofs.Common.{◌≡◌, map, drop}
use Rattle.pgo_base.specs.View.{data_of}
use Rattle.pgo_heads.specs.Refusals as specs
use Rattle.pgo_heads.proofs.same_id.repeated_behind.Given as goal

abbrev pub invariant-loop-v : goal.invariant-loop-v
invariant-loop-v l =
    specs.first (specs.repeated_behind (data_of l.fn.first) (map data_of l.rest)) ≡ specs.first (specs.repeated_behind (data_of l.before) (map data_of (drop l.v-index l.rest)))
