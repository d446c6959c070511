-- When Next is TRUE along a log.
use Rattle.std.specs.Prelude.{◌≡◌, ℕ, suc, List, Some}
use Rattle.pgo_base.specs.Data.{Data}
use Rattle.pgo_base.specs.Lookup.{Name, Vars}
use Rattle.pgo_model.specs.Log.{Effect, StateAt}
use Rattle.pgo_model.specs.Machine.{Entry}
use Rattle.pgo_model.specs.Module.{Module}
use Rattle.pgo_translate.specs.Agrees.{IsNext}

-- Next is TRUE of each state of the log and the one after it
abbrev pub NextHolds : Module → List (Name × Data) → (start : Vars) → List (Entry Effect) → Type 0
NextHolds m consts start entries =
    (p : ℕ) (s t : Vars) → StateAt start entries p ≡ Some s → StateAt start entries (suc p) ≡ Some t → IsNext m consts s t
