-- Names as rows, in which a name is found by a map.
use Rattle.std.specs.Prelude.{List, map}
use Rattle.pgo_base.specs.Lookup.{Name}
use Rattle.pgo_uses.specs.Names.{Rows}

-- of names
abbrev pub name_rows : List Name → Rows
name_rows xs = map (λ x. (x, 0)) xs

-- of the variables that are changed
abbrev pub changed_rows : List (Name × Name) → Rows
changed_rows cs = map (λ c. (c.0, 0)) cs
