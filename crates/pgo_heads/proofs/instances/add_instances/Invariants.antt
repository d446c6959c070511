use Rattle.std.proofs.Common.{◌≡◌, ◌+◌, ◌≤◌, ◌++◌, length, map, drop}
use Rattle.pgo_base.specs.View.{data_of}
use Rattle.pgo_heads.specs.Views.{run_view}
use Rattle.pgo_bound.specs.BoundOf as bound
use Rattle.pgo_heads.proofs.instances.add_instances.Given as goal

abbrev pub invariant-loop-id : goal.invariant-loop-id
invariant-loop-id l =
    record {
      same : l.fn.list.items ++ bound.numbered (bound.instance_with l.bindings.items) (length l.fn.list.items) (map (λ d. (run_view l.run, d)) (map data_of l.id-items)) ≡ l.list.items ++ bound.numbered (bound.instance_with l.bindings.items) (length l.list.items) (map (λ d. (run_view l.run, d)) (map data_of (drop l.id-index l.id-items)));
      few : length l.list.items + length (drop l.id-index l.id-items) ≤ 64;
    }
