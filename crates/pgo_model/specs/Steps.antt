-- A log step by step: where each entry leads from the state before it.
use Rattle.std.specs.Prelude.{◌≡◌, ◌<◌, ℕ, suc, if◌then◌else◌, List, [], ◌∷◌, Option, Some, None, option_map}
use Rattle.pgo_base.specs.Data.{Data, string}
use Rattle.pgo_base.specs.Lookup.{Name, Vars, same_name}
use Rattle.pgo_model.specs.Acts.{Acts}
use Rattle.pgo_model.specs.Variables.{place_of}
use Rattle.pgo_model.specs.Log.{Effect, After}
use Rattle.pgo_model.specs.Machine.{Entry, nth}
use Rattle.pgo_model.specs.Module.{Module}

-- the place of the first variable of the name
abbrev pub place_in : Name → Vars → Option ℕ
place_in x [] = None
place_in x (p ∷ s) = if same_name x p.0 then Some 0 else option_map suc (place_in x s)

abbrev pub IsPlaced : Option ℕ → ℕ → Type 0
IsPlaced None n = Unit {0}
IsPlaced (Some i) n = i < n

-- the entry is a step from s to t
pub record Leads (m : Module) (consts : List (Name × Data)) (ids : List Data) (s : Vars) (e : Entry Effect) (t : Vars) : Type 0 where
  pub id : Data
  pub identifier : nth ids e.instance ≡ Some id
  pub to : After s e.change ≡ Some t
  pub acts : Acts m consts e.change.label id s t
  pub next : place_of id t ≡ Some (string e.change.next)

-- where the entry leads, or it is no step
abbrev pub LeadsTo : Module → List (Name × Data) → List Data → Vars → Entry Effect → Option Vars → Type 0
LeadsTo m consts ids s e (Some t) = Leads m consts ids s e t
LeadsTo m consts ids s e None = (t : Vars) → Leads m consts ids s e t → ⊥
