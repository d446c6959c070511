use Rattle.std.proofs.Common.{◌≡◌, map, drop}
use Rattle.pgo_base.specs.Lookup.{Name}
use Rattle.pgo_bound.specs.Runs.{extents_of}
use Rattle.pgo_bound.specs.Kinds.{all_extents}
use Rattle.pgo_bound.specs.declared.kinds.Kind.TheVariants.{Unbound}
use Rattle.pgo_heads.specs.NameMaps.{kind_in}
use Rattle.pgo_heads.specs.Views.{run_view}
use Rattle.pgo_heads.proofs.kinds.kinds_of.Given as goal

abbrev pub invariant-loop-r : goal.invariant-loop-r
invariant-loop-r l = (n : Name) → all_extents Unbound (extents_of n (map run_view l.runs)) ≡ all_extents (kind_in l.kinds n) (extents_of n (map run_view (drop l.r-index l.runs)))
