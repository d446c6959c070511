use Rattle.std.proofs.Common.{◌≡◌, ◌++◌, map, drop}
use Rattle.std.specs.List.{filter_map}
use Rattle.pgo_heads.specs.Views.{handed_view}
use Rattle.pgo_pluscal.specs.PlusCalOf.{parameter_declaration}
use Rattle.pgo_expand.proofs.own.add_parameters.Given as goal

abbrev pub invariant-loop-h : goal.invariant-loop-h
invariant-loop-h l =
    l.fn.list.items ++ filter_map (λ h. parameter_declaration l.process h.parameter.name h.argument) (map handed_view l.handed)
    ≡ l.list.items ++ filter_map (λ h. parameter_declaration l.process h.parameter.name h.argument) (map handed_view (drop l.h-index l.handed))
