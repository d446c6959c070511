-- A source in memory that fails at listed calls, as contracts see it.
use Rattle.std.specs.Prelude.{ℕ, List}
use Rattle.pgo_io.specs.Calls.{Counts}

-- the bytes that are left, and the calls of `read`
pub record Supply : Type 0 where
  pub rest : List ℕ
  pub calls : Counts
