-- Whether statements are too deep.
use Rattle.std.specs.Prelude.{◌≡◌, ℕ, Bool, true, false, Option, Some, None}

-- None where it holds, and a place where it doesn't
abbrev pub Tells : Bool → Option ℕ → Type 0
Tells b None = b ≡ true
Tells b (Some place) = b ≡ false
