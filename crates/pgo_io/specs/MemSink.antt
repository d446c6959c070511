-- A sink in memory that fails at listed calls, as contracts see it.
use Rattle.std.specs.Prelude.{ℕ, ◌<◌, ◌≤◌, List, length}
use Rattle.pgo_io.specs.Calls.{Counts}

-- the bytes that were taken, for how many there is room in all, and the calls of `write`
pub record Store : Type 0 where
  pub content : List ℕ
  pub room : ℕ
  pub calls : Counts

-- No room is left, and the piece has some byte.
abbrev pub LacksRoom : Store → List ℕ → Type 0
LacksRoom store piece = (store.room ≤ length store.content) × (0 < length piece)
