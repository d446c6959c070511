-- Forms around what stands behind a conjunction.
use Rattle.std.specs.Prelude.{ℕ, Option, Some, None}

abbrev pub shift : Option ℕ → ℕ
shift None = 0
shift (Some a) = 1
