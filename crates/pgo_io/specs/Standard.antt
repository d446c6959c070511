-- A reader or a writer of std beside a count.
use Rattle.std.specs.Prelude.{ℕ}

-- the reader or the writer, and how often it has failed
pub record Counted (T : Type 0) : Type 0 where
  pub inner : T
  pub faults : ℕ
