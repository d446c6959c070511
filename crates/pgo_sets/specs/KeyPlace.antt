-- The place of a key in a graph, and what stands there.
use Rattle.std.specs.Prelude.{ℕ, suc, if◌then◌else◌, List, [], ◌∷◌, Option, Some, None, option_map}
use Rattle.pgo_base.specs.Data.{Data}
use Rattle.pgo_model.specs.Operators.{same_data}
pub use Rattle.pgo_base.specs.ValuePlace.{value_in, set_value}

-- the place of a key
abbrev pub key_place : Data → List (Data × Data) → Option ℕ
key_place k [] = None
key_place k (p ∷ ps) = if same_data k p.0 then Some 0 else option_map suc (key_place k ps)
