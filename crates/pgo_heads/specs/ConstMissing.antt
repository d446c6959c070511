-- Rule 1: a declared constant isn't given.
use Rattle.std.specs.Prelude.{List, map, filter, is_none}
use Rattle.pgo_base.specs.Data.{Data}
use Rattle.pgo_base.specs.Lookup.{Name}
use Rattle.pgo_syntax.specs.declared.name.PlacedName.{PlacedName}
use Rattle.pgo_bound.specs.Values.{given_value}

-- the declared constants that aren't given
abbrev pub missing : List PlacedName → List (Name × Data) → List Name
missing declared consts = map (λ c. c.name) (filter (λ c. is_none (given_value consts c.name)) declared)
