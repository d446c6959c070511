-- Variables whose names are known to be different, and states that are alike at some places.
use Rattle.std.specs.Prelude.{◌≡◌, ℕ, suc, Bool, true, false, if◌then◌else◌, List, [], ◌∷◌, map, Option, Some, None, option_map, slice_get}
use Rattle.std.proofs.Props.{props}
use Rattle.pgo_base.specs.Code.{coded_data}
use Rattle.pgo_base.specs.Data.{Data}
use Rattle.pgo_base.specs.Lists.{StandOnce}
use Rattle.pgo_base.specs.Lookup.{Name, Vars, same_name, find}

abbrev pub name_in : List ℕ × Data → List ℕ
name_in p = p.0

-- where it is known, no two variables have one name
abbrev pub IsKnown : Bool → List (List ℕ × Data) → Type 0
IsKnown false vs = Unit {0}
IsKnown true vs = StandOnce (map name_in vs)

-- the place of the first variable of the name
abbrev pub first_place : Name → Vars → Option ℕ
first_place x [] = None
first_place x (p ∷ vs) = if same_name x p.0 then Some 0 else option_map suc (first_place x vs)

-- a variable that stands first of its name at a place that is kept has the same value in the next state, where there is one
abbrev pub AreAlike : Vars → Option Vars → List Bool → Type 0
AreAlike now next kept =
    (t : Vars) → next ≡ Some t → (i : ℕ) (x : Name) → slice_get kept i ≡ Some true → first_place x now ≡ Some i → find x t ≡ find x now

pub are_alike_prop : (now : Vars) (next : Option Vars) (kept : List Bool) → IsProp (AreAlike now next kept)
are_alike_prop now next kept = Prim.hlevel (props, coded_data)
