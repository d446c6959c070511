use Rattle.std.proofs.Common.{◌≡◌, ◌+◌, ◌++◌, map, drop}
use Rattle.pgo_heads.specs.Views.{global_view, part_view}
use Rattle.pgo_bound.specs.BoundOf as bound
use Rattle.pgo_heads.proofs.globals.all_parts.Given as goal

abbrev pub invariant-loop-g : goal.invariant-loop-g
invariant-loop-g l =
    bound.all_parts (map global_view l.globals) ≡ map part_view l.list.items ++ bound.all_parts (map global_view (drop l.g-index l.globals))
