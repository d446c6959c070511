-- What a verdict on a log says.
use Rattle.std.specs.Prelude.{◌≡◌, ◌<◌, ℕ, suc, List, Option, Some, None, length}
use Rattle.pgo_base.specs.Data.{Data}
use Rattle.pgo_base.specs.Lookup.{Name, Vars}
use Rattle.pgo_model.specs.Acts.{Begins}
use Rattle.pgo_model.specs.IsRun.{IsRun, IsStep}
use Rattle.pgo_model.specs.Log.{Effect}
use Rattle.pgo_model.specs.Machine.{Entry, nth}
use Rattle.pgo_model.specs.Module.{Module}
use Rattle.pgo_check.specs.declared.verdict.Verdict.{Verdict}
use Rattle.pgo_check.specs.declared.verdict.Verdict.TheVariants.{Run, Bad}
use Rattle.pgo_check.specs.declared.verdict.Why.TheVariants.{NoInit, NoStep}

-- entry number p + 1 is the first that is no step: it is there, it is none, and each entry before it is one
pub record IsFirstBad (m : Module) (consts : List (Name × Data)) (ids : List Data) (start : Vars) (entries : List (Entry Effect)) (p : ℕ) : Type 0 where
  pub entry : Entry Effect
  pub found : nth entries p ≡ Some entry
  pub bad : IsStep m consts ids start entries p entry → ⊥
  pub earlier : (q : ℕ) → q < p → (e : Entry Effect) → nth entries q ≡ Some e → IsStep m consts ids start entries q e

-- what a verdict says: the log is a run and this is its number of entries; Init isn't TRUE of its start; or Init is TRUE
-- of it, and this is the number, counted from 1, of the first entry that is no step
abbrev pub Decides : Module → List (Name × Data) → List Data → Vars → List (Entry Effect) → Verdict → Type 0
Decides m consts ids s l (Run n) = (n ≡ length l) × IsRun m consts ids s l
Decides m consts ids s l (Bad n NoInit) = (n ≡ 0) × (Begins m consts s → ⊥)
Decides m consts ids s l (Bad n NoStep) = (p : ℕ) × (n ≡ suc p) × Begins m consts s × IsFirstBad m consts ids s l p

-- the place, from 0, of the first entry that is no step; none where each is one
abbrev pub Finds : Module → List (Name × Data) → List Data → Vars → List (Entry Effect) → Option ℕ → Type 0
Finds m consts ids s l None = (p : ℕ) (e : Entry Effect) → nth l p ≡ Some e → IsStep m consts ids s l p e
Finds m consts ids s l (Some p) = IsFirstBad m consts ids s l p
