-- The first of a name, and its place.
use Rattle.std.specs.Prelude.{ℕ, suc, Bool, false, nat_lt, if◌then◌else◌, List, [], ◌∷◌, Option, Some, None, option_map}
use Rattle.pgo_base.specs.Lookup.{Name, same_name}

-- the first of the name
abbrev pub first_named : {A : Type 0} → (A → Name) → Name → List A → Option A
first_named f x [] = None
first_named f x (r ∷ rs) = if same_name x (f r) then Some r else first_named f x rs

-- how many rows stand before the first of the name
abbrev pub first_place : {A : Type 0} → (A → Name) → Name → List A → Option ℕ
first_place f x [] = None
first_place f x (r ∷ rs) = if same_name x (f r) then Some 0 else option_map suc (first_place f x rs)

-- the place is one of the first n
abbrev pub is_below : ℕ → Option ℕ → Bool
is_below n None = false
is_below n (Some i) = nat_lt i n
