-- Names that are bound around an expression, as groups of names, the innermost group first.
use Rattle.std.specs.Prelude.{List, [], ◌∷◌}
pub use Rattle.pgo_base.specs.Groups.{Groups, coded_groups}
use Rattle.pgo_base.specs.Lookup.{Name}
use Rattle.pgo_sections.specs.Bound.{below}

-- the names of all groups, the newest first; those of a group are bound one after another
abbrev pub in_scope : Groups → List Name
in_scope [] = []
in_scope (g ∷ gs) = below g (in_scope gs)
