-- The place of the last of a name in a list.
use Rattle.std.specs.Prelude.{ℕ, if◌then◌else◌, List, [], ◌∷◌, Option, Some, None, length, reverse, slice_get}
use Rattle.pgo_base.specs.Lookup.{Name, same_name}
use Rattle.pgo_base.specs.declared.module.Defined.{Defined}
use Rattle.pgo_base.specs.declared.module.Defined.TheVariants.{Given, Means}

-- how many stand before the last of a name, where the last one is first; f says the name of each
abbrev pub place_among : {A : Type 0} → (A → Name) → Name → List A → Option ℕ
place_among f x [] = None
place_among f x (r ∷ rs) = if same_name x (f r) then Some (length rs) else place_among f x rs

-- how many stand before the last of a name
abbrev pub last_place : {A : Type 0} → (A → Name) → Name → List A → Option ℕ
last_place f x rows = place_among f x (reverse rows)

-- the row in a place, if there is one
abbrev pub row_at : {A : Type 0} → List A → Option ℕ → Option A
row_at rows None = None
row_at rows (Some i) = slice_get rows i

-- the last row of a name
abbrev pub last_row : {A : Type 0} → (A → Name) → Name → List A → Option A
last_row f x rows = row_at rows (last_place f x rows)

abbrev pub defined_name : Defined → Name
defined_name (Given x v) = x
defined_name (Means x ps e) = x
