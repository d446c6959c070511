-- Names with numbers.
use Rattle.std.specs.Prelude.{ℕ, Bool, false, ◌||◌, slice_get, List, [], ◌∷◌, Option, Some, None, option_map, is_some}
use Rattle.pgo_base.specs.Lookup.{Name, same_name, find}
use Rattle.pgo_base.specs.FirstPlace.{first_place}
pub use Rattle.pgo_base.specs.FirstPlace.{is_below}

abbrev pub Rows : Type 0
Rows = List (Name × ℕ)

-- one of these rows has the name
abbrev pub has_row : Name → Rows → Bool
has_row x rows = is_some (find x rows)

-- b, or the name is among these
abbrev pub among_all : Bool → Rows → Name → Bool
among_all b [] x = b
among_all b (r ∷ rs) x = among_all (same_name x r.0 || b) rs x

-- the place of the first of the name, from 0
abbrev pub first_at : Name → Rows → Option ℕ
first_at x rows = first_place (λ r. r.0) x rows

-- the number of the row in this place
abbrev pub number_at : Rows → Option ℕ → Option ℕ
number_at rows None = None
number_at rows (Some i) = option_map (λ r. r.1) (slice_get rows i)

-- the name is one of the first n
abbrev pub is_earlier : ℕ → Name → Rows → Bool
is_earlier n x rows = is_below n (first_at x rows)

abbrev pub is_row : Name → Option (Name × ℕ) → Bool
is_row x None = false
is_row x (Some r) = same_name x r.0

-- the name is that of the row in this place, from 0
abbrev pub is_at : ℕ → Name → Rows → Bool
is_at n x rows = is_row x (slice_get rows n)
