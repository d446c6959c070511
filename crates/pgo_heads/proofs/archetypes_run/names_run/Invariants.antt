-- A name is known or that of an archetype of those that are left where it is that of an archetype of all.
use Rattle.std.proofs.Common.{◌≡◌, map, drop}
use Rattle.std.specs.Prelude.{◌||◌}
use Rattle.std.specs.List.{list_any}
use Rattle.pgo_base.specs.Lookup.{Name, same_name}
use Rattle.pgo_bound.specs.Runs.{Run}
use Rattle.pgo_heads.specs.NameMaps.{has_name}
use Rattle.pgo_heads.specs.Views.{run_view}
use Rattle.pgo_heads.proofs.archetypes_run.names_run.Given as goal

abbrev pub invariant-loop-r : goal.invariant-loop-r
invariant-loop-r l = (n : Name) → has_name l.names n || list_any (λ (r : Run). same_name n r.archetype.name.name) (map run_view (drop l.r-index l.runs)) ≡ list_any (λ (r : Run). same_name n r.archetype.name.name) (map run_view l.runs)
