use Rattle.std.proofs.Common.{◌≡◌, ◌++◌, map, drop}
use Rattle.std.specs.List.{filter_map}
use Rattle.pgo_bound.specs.State.{value_name}
use Rattle.pgo_heads.specs.Views.{handed_view}
use Rattle.pgo_resource.proofs.layout.add_values.Given as goal

abbrev pub invariant-loop-h : goal.invariant-loop-h
invariant-loop-h l =
    l.fn.list.items ++ filter_map (λ h. value_name h.parameter.name.name h.argument) (map handed_view l.handed)
    ≡ l.list.items ++ filter_map (λ h. value_name h.parameter.name.name h.argument) (map handed_view (drop l.h-index l.handed))
