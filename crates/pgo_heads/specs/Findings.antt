-- Of what a rule finds: the first, and the first in the text.
use Rattle.std.specs.Prelude.{ℕ, Bool, if◌then◌else◌, List, [], ◌∷◌, Option, Some, None}
use Rattle.pgo_base.specs.Lookup.{Name}
pub use Rattle.pgo_base.specs.Lookup.{or_that}
use Rattle.pgo_syntax.specs.declared.name.PlacedName.{PlacedName}
use Rattle.pgo_syntax.specs.Least.{sooner_of, least}

abbrev pub where_true : {A : Type 0} → Bool → A → Option A
where_true b x = if b then Some x else None

-- a name with its place in the text
abbrev pub at_place : PlacedName → ℕ × Name
at_place x = (x.place, x.name)

abbrev pub first : {A : Type 0} → List A → Option A
first [] = None
first (x ∷ xs) = Some x

-- the one that stands first in the text
abbrev pub earlier : Option (ℕ × Name) → Option (ℕ × Name) → Option (ℕ × Name)
earlier = sooner_of (λ p. p.0)

-- the first in the text; of those at one place the first in the list
abbrev pub first_placed : List (ℕ × Name) → Option (ℕ × Name)
first_placed = least (λ p. p.0)
