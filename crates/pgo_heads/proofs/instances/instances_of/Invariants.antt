use Rattle.std.proofs.Common.{◌≡◌, ◌+◌, ◌≤◌, ◌++◌, length, map, drop}
use Rattle.pgo_heads.specs.Views.{run_view}
use Rattle.pgo_bound.specs.BoundOf as bound
use Rattle.pgo_heads.proofs.instances.instances_of.Given as goal

abbrev pub invariant-loop-r : goal.invariant-loop-r
invariant-loop-r l =
    record {
      same : bound.numbered (bound.instance_at l.spec) 0 (bound.places_of (map run_view l.runs)) ≡ l.list.items ++ bound.numbered (bound.instance_at l.spec) (length l.list.items) (bound.places_of (map run_view (drop l.r-index l.runs)));
      few : length l.list.items + length (bound.places_of (map run_view (drop l.r-index l.runs))) ≤ 64;
    }
