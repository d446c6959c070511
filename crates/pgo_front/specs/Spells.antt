-- How long the text of a specification may be.
use Rattle.std.specs.Prelude.{ℕ}

-- the most bytes of a specification
abbrev pub most_bytes : ℕ
most_bytes = 1048576
