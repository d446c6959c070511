-- Rule 5: the identifiers of a process are no set with a value, or one is too deep.
use Rattle.std.specs.Prelude.{Bool, true, nat_lt, List, map, filter, Option, Some, None}
use Rattle.std.specs.List.{list_any}
use Rattle.pgo_base.specs.Data.{Data}
use Rattle.pgo_base.specs.Size.{depth}
use Rattle.pgo_base.specs.Lookup.{Name}
use Rattle.pgo_bound.specs.Runs.{Run}
use Rattle.pgo_heads.specs.Limits.{part_depth}

abbrev pub is_some_deep : List Data → Bool
is_some_deep ids = list_any (λ id. nat_lt part_depth (depth id)) ids

-- the identifiers have no value, or one of them is too deep
abbrev pub has_no_ids : Option (List Data) → Bool
has_no_ids None = true
has_no_ids (Some ids) = is_some_deep ids

-- a process whose identifiers are no set with a value, or are too deep
abbrev pub ids_unknown : List Run → List Name
ids_unknown rs = map (λ r. r.process.name.name) (filter (λ r. has_no_ids r.ids) rs)
