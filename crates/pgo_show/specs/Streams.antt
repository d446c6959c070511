-- A stream before a call and after it.
use Rattle.std.specs.Prelude.{ℕ, List, Option}
use Rattle.pgo_io.specs.Faults.{Rose}

-- the bytes that a stream tells, those that are left of an input or those that an output holds, and how often it has failed; and what
-- it is before a call and after it
pub record Stream (T : Type 0) : Type 0 where
  pub bytes : T → Option (List ℕ)
  pub faults : T → ℕ
  pub old : T
  pub new : T

abbrev pub around : {T : Type 0} → (bytes : T → Option (List ℕ)) → (faults : T → ℕ) → (old new : T) → Stream T
around bytes faults old new = record { bytes = bytes; faults = faults; old = old; new = new }

-- what it told before the call
abbrev pub before : {T : Type 0} → Stream T → Option (List ℕ)
before t = t.bytes t.old

-- and after it
abbrev pub after : {T : Type 0} → Stream T → Option (List ℕ)
after t = t.bytes t.new

-- it failed in the call
abbrev pub Failed : {T : Type 0} → Stream T → Type 0
Failed t = Rose (t.faults t.old) (t.faults t.new)
