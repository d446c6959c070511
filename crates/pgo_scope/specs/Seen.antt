-- How the names before are written, by which the first that clashes is found.
use Rattle.std.specs.Prelude.{ℕ, suc, if◌then◌else◌, slice_get, List, [], ◌∷◌, ◌++◌, Option, Some, None}
use Rattle.pgo_base.specs.Lookup.{find}
use Rattle.pgo_uses.specs.Names.{Rows, first_at}
use Rattle.pgo_scope.specs.declared.errors.ScopeError.TheVariants as errors
use Rattle.pgo_scope.specs.declared.finding.Finding.{Finding}
use Rattle.pgo_scope.specs.declared.module_names.ModuleName.{ModuleName}

-- all of them
abbrev pub any_rows : List ModuleName → Rows
any_rows [] = []
any_rows (t ∷ ts) = (t.written, 0) ∷ any_rows ts

-- the one in this place
abbrev pub unbound_row : ℕ → ModuleName → Rows
unbound_row n t = if t.bound then [] else (t.written, n) ∷ []

-- those that aren't bound, each with its place, where the first is in this one
abbrev pub unbound_rows : ℕ → List ModuleName → Rows
unbound_rows n [] = []
unbound_rows n (t ∷ ts) = unbound_row n t ++ unbound_rows (suc n) ts

-- the place of the first that clashes with t
abbrev pub clash_place : Rows → Rows → ModuleName → Option ℕ
clash_place any unbound t = if t.bound then find t.written unbound else first_at t.written any

-- t clashes with this one
abbrev pub clash_of : ModuleName → Option ModuleName → List Finding
clash_of t None = []
clash_of t (Some u) = record { place = t.place; error = errors.NameClash u.shown t.shown } ∷ []

-- t clashes with the one of these in this place
abbrev pub clash_at : List ModuleName → ModuleName → Option ℕ → List Finding
clash_at before t None = []
clash_at before t (Some i) = clash_of t (slice_get before i)
