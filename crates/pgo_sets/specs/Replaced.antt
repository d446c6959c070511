-- A function with another value at one key, where it has that key.
use Rattle.std.specs.Prelude.{List, Option, Some, None}
use Rattle.pgo_base.specs.Data.{Data, function, pairs}
use Rattle.pgo_model.specs.Operators.{lookup, replace_at, function_of}

-- by what stands at the key
abbrev pub with_value_where : Data → Data → List (Data × Data) → Option Data → Option Data
with_value_where k v ps None = Some (function (pairs ps))
with_value_where k v ps (Some old) = function_of (replace_at k v ps)

abbrev pub with_value : Data → Data → List (Data × Data) → Option Data
with_value k v ps = with_value_where k v ps (lookup k ps)
