-- A sink in memory, as contracts see it.
use Rattle.std.specs.Prelude.{ℕ, Bool, if◌then◌else◌, List, Option, Some, None}

-- the first bytes that were written, as many as there is room for, and whether no others were
pub record Kept : Type 0 where
  pub content : List ℕ
  pub room : ℕ
  pub whole : Bool

-- what the sink tells that it holds: its content, while nothing was dropped
abbrev pub told : Kept → Option (List ℕ)
told kept = if kept.whole then Some kept.content else None
