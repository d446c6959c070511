use Rattle.std.proofs.Common.{◌≡◌, map, drop}
use Rattle.pgo_base.specs.Lookup.{Name}
use Rattle.pgo_bound.specs.Runs.{extents_in}
use Rattle.pgo_bound.specs.Kinds.{all_extents}
use Rattle.pgo_heads.specs.NameMaps.{kind_in}
use Rattle.pgo_heads.specs.Views.{handed_view}
use Rattle.pgo_heads.proofs.kinds.add_arguments.Given as goal

abbrev pub invariant-loop-h : goal.invariant-loop-h
invariant-loop-h l = (n : Name) → all_extents (kind_in l.fn.kinds n) (extents_in n (map handed_view l.handed)) ≡ all_extents (kind_in l.kinds n) (extents_in n (map handed_view (drop l.h-index l.handed)))
