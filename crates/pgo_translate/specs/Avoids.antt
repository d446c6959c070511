-- When none of some names stands in an expression, and the expression speaks of one state alone.
use Rattle.std.specs.Prelude.{◌≡◌, Bool, false}
use Rattle.pgo_base.specs.Lookup.{Name}
use Rattle.pgo_base.specs.Tree.{Tree}
use Rattle.pgo_sections.specs.Plain.{Plain}

-- `bad` tells the names
abbrev pub Good : (Name → Bool) → Name → Type 0
Good bad x = bad x ≡ false

-- what the expression binds is free, but names that it binds and uses are asked about as others are
abbrev pub Free : Name → Type 0
Free x = Unit {0}

abbrev pub Avoids : (Name → Bool) → Tree → Type 0
Avoids bad e = Plain (Good bad) (Good bad) Free e
