-- How a section ends. `Many`: so many of its leaves as are tried are Blocked, and there are more.
use Rattle.std.specs.Prelude.{ℕ, Bool, true, false, List}
use Rattle.pgo_base.specs.Data.{Data}

pub data Kind : Type 0 where
  Blocked NoValue AssertFails Many : Kind

-- how many leaves an attempt tries at most
abbrev pub most_leaves : ℕ
most_leaves = 65536

-- `Nowhere`: the instance is at no label of its process
pub data Outcome (S : Type 0) : Type 0 where
  Next : (t : S) → (prints : List Data) → Outcome S
  Stuck : (kind : Kind) → Outcome S
  Nowhere : Outcome S

abbrev pub is_blocked : {S : Type 0} → Outcome S → Bool
is_blocked (Next t ps) = false
is_blocked (Stuck Blocked) = true
is_blocked (Stuck NoValue) = false
is_blocked (Stuck AssertFails) = false
is_blocked (Stuck Many) = false
is_blocked Nowhere = false

-- what one section does on one state: what it reads and writes of resources, in order, and its end
pub record Section (R S : Type 0) : Type 0 where
  pub trace : List R
  pub end : Outcome S
