-- A value that may be missing.
use Rattle.std.specs.Prelude.{Option, Some, None}

-- what comes where there is a value, and what where there is none
abbrev pub on : {A B : Type 0} → B → Option A → (A → B) → B
on none None f = none
on none (Some v) f = f v
