-- The names that archetypes' processes write, as they lie in memory, and as they are looked up.
use Rattle.std.specs.Prelude.{List, [], ◌∷◌, map}
use Rattle.pgo_base.specs.Lookup.{Name}
use Rattle.pgo_uses.specs.Names.{Rows, first_at}
use Rattle.pgo_scope.specs.Clash.{or_none}
use Rattle.pgo_scope.specs.Usage.{item_at}
use Rattle.pgo_scope.specs.declared.module_names.OwnNames.{OwnNames}

-- the names of archetypes, and in the same order what the processes of each write
abbrev pub OwnTable : Type 0
OwnTable = Rows × List (List Name)

abbrev pub see_own : OwnNames → OwnTable
see_own o = (o.archetypes, map (λ v. v.items) o.lists.items)

abbrev pub archetypes_in : List (Name × List Name) → Rows
archetypes_in [] = []
archetypes_in (r ∷ rs) = (r.0, 0) ∷ archetypes_in rs

abbrev pub lists_in : List (Name × List Name) → List (List Name)
lists_in [] = []
lists_in (r ∷ rs) = r.1 ∷ lists_in rs

-- what the processes of the archetype of this name write
abbrev pub own_in : OwnTable → Name → List Name
own_in o x = or_none (item_at (first_at x o.0) o.1)
