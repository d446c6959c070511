-- Rule 2: a given constant isn't declared.
use Rattle.std.specs.Prelude.{not, List, map, filter}
use Rattle.pgo_base.specs.Data.{Data}
use Rattle.pgo_base.specs.Lookup.{Name}
use Rattle.pgo_model.specs.Names.{is_among}
use Rattle.pgo_syntax.specs.declared.name.PlacedName.{PlacedName}

-- the given constants that aren't declared
abbrev pub unknown : List PlacedName → List (Name × Data) → List Name
unknown declared consts = filter (λ x. not (is_among x (map (λ d. d.name) declared))) (map (λ c. c.0) consts)
