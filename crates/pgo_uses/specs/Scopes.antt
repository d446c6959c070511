-- Names in scope, as groups of names, the innermost group first.
use Rattle.std.specs.Prelude.{List, [], ◌∷◌, ◌++◌, map}
pub use Rattle.pgo_base.specs.Groups.{Groups, coded_groups}
use Rattle.pgo_base.specs.Lookup.{Name}
use Rattle.pgo_uses.specs.Names.{Rows}

-- the names of all groups, the outermost first
abbrev pub in_scope : Groups → List Name
in_scope [] = []
in_scope (g ∷ gs) = in_scope gs ++ g

abbrev pub row_names : Rows → List Name
row_names rows = map (λ r. r.0) rows
