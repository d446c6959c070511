use Rattle.std.proofs.Common.{◌≡◌, ◌+◌, ◌≤◌, ◌++◌, length, map, drop}
use Rattle.pgo_heads.specs.Views.{part_view}
use Rattle.pgo_bound.specs.BoundOf as bound
use Rattle.pgo_heads.proofs.globals.resources_of.Given as goal

abbrev pub invariant-loop-p : goal.invariant-loop-p
invariant-loop-p l =
    record {
      same : bound.numbered bound.resource_at 0 (map part_view l.parts) ≡ l.list.items ++ bound.numbered bound.resource_at (length l.list.items) (map part_view (drop l.p-index l.parts));
      few : length l.list.items + length (drop l.p-index l.parts) ≤ 1024;
    }
