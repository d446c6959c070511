-- When a log is a run of a module: each entry is a step of it.
use Rattle.std.specs.Prelude.{◌≡◌, ℕ, suc, List, Some}
use Rattle.pgo_base.specs.Data.{Data, string}
use Rattle.pgo_base.specs.Lookup.{Name, Vars}
use Rattle.pgo_model.specs.Variables.{place_of}
use Rattle.pgo_model.specs.Log.{Effect, StateAt}
use Rattle.pgo_model.specs.Machine.{Entry, nth}
use Rattle.pgo_model.specs.Module.{Module}
use Rattle.pgo_model.specs.Acts.{Begins, Acts}

-- entry number p + 1: its instance has an identifier, there are a state before it and one after it, its label's
-- action is TRUE of the pair, and its next label is where the instance stands then
pub record IsStep (m : Module) (consts : List (Name × Data)) (ids : List Data) (start : Vars) (entries : List (Entry Effect)) (p : ℕ) (e : Entry Effect) : Type 0 where
  pub id : Data
  pub before : Vars
  pub after : Vars
  pub identifier : nth ids e.instance ≡ Some id
  pub from : StateAt start entries p ≡ Some before
  pub to : StateAt start entries (suc p) ≡ Some after
  pub acts : Acts m consts e.change.label id before after
  pub next : place_of id after ≡ Some (string e.change.next)

pub record IsRun (m : Module) (consts : List (Name × Data)) (ids : List Data) (start : Vars) (entries : List (Entry Effect)) : Type 0 where
  pub begins : Begins m consts start
  pub steps : (p : ℕ) (e : Entry Effect) → nth entries p ≡ Some e → IsStep m consts ids start entries p e
