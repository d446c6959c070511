-- Lines with a number.
use Rattle.std.specs.Prelude.{ℕ, List, ◌++◌, decimal}

-- the number stands before and behind the words between
abbrev pub numbered_line : (before between behind : List ℕ) → ℕ → List ℕ
numbered_line before between behind n = before ++ (decimal n ++ (between ++ (decimal n ++ behind)))
