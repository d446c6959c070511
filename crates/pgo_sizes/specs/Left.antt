-- What is left of a limit.
use Rattle.std.specs.Prelude.{ℕ, nat_le, ◌-◌, if◌then◌else◌, Option, Some, None}

-- what is left of l behind n, if there is so much
abbrev pub left_after : ℕ → ℕ → Option ℕ
left_after l n = if nat_le n l then Some (l - n) else None
