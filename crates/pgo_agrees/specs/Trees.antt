-- The trees of an expanded specification.
use Rattle.std.specs.Prelude.{List}
use Rattle.std.specs.List.{flat_map}
use Rattle.pgo_base.specs.Lookup.{Name}
use Rattle.pgo_sections.specs.Expansion.{Expansion}
use Rattle.pgo_pluscal.specs.declared.pluscal.PlusCal.{PlusCal}

-- process by process, by their written labels
abbrev pub trees_in : PlusCal → List (Name × Expansion)
trees_in p = flat_map (λ q. q.trees) p.processes
