-- Parts of a log, and the first entry that is no step, in a part and in all.
use Rattle.std.specs.Prelude.{◌≡◌, ◌≤◌, ◌<◌, ◌⊎◌, ℕ, List, [], ◌∷◌, length, Option, Some, None, Result, Ok, Err, IfOk}
use Rattle.pgo_base.specs.Data.{Data}
use Rattle.pgo_base.specs.Lookup.{Name, Vars}
use Rattle.pgo_model.specs.IsRun.{IsStep}
use Rattle.pgo_model.specs.Log.{Effect, StateAt}
use Rattle.pgo_model.specs.Machine.{Entry, nth}
use Rattle.pgo_model.specs.Module.{Module}
use Rattle.pgo_check_par.specs.declared.parts.Part.{Part}

-- parts that follow one another from a to b, with the state before each
abbrev pub Follow : Vars → List (Entry Effect) → ℕ → List Part → ℕ → Type 0
Follow s l a [] b = a ≡ b
Follow s l a (p ∷ ps) b = (p.from ≡ a) × (p.from < p.to) × (p.to ≤ length l) × (StateAt s l p.from ≡ Some p.start) × Follow s l p.to ps b

-- they go up to the end, or to where there is no state
pub record AreParts (s : Vars) (l : List (Entry Effect)) (ps : List Part) : Type 0 where
  pub last : ℕ
  pub follow : Follow s l 0 ps last
  pub ends : (last ≡ length l) ⊎ (StateAt s l last ≡ None)

-- of the entries from a up to b, the first that is no step; none where each is one
abbrev pub FindsAt : Module → List (Name × Data) → List Data → Vars → List (Entry Effect) → ℕ → ℕ → Option ℕ → Type 0
FindsAt m consts ids s l a b None = (p : ℕ) (e : Entry Effect) → a ≤ p → p < b → nth l p ≡ Some e → IsStep m consts ids s l p e
FindsAt m consts ids s l a b (Some p) =
    (e : Entry Effect) × (a ≤ p) × (p < b) × (nth l p ≡ Some e) × (IsStep m consts ids s l p e → ⊥) × ((q : ℕ) (d : Entry Effect) → a ≤ q → q < p → nth l q ≡ Some d → IsStep m consts ids s l q d)

-- what a part found holds, from the state before it
abbrev pub FoundBy : {E : Type 0} → Module → List (Name × Data) → List Data → Vars → List (Entry Effect) → Part → Result (Option ℕ) E → Type 0
FoundBy m consts ids s l p r = IfOk r (λ o. StateAt s l p.from ≡ Some p.start → FindsAt m consts ids s l p.from p.to o)

-- the first place that is found, or the first fault before it
abbrev pub scanned : {E : Type 0} → List (Result (Option ℕ) E) → Result (Option ℕ) E
scanned [] = Ok None
scanned (Err e ∷ rs) = Err e
scanned (Ok (Some p) ∷ rs) = Ok (Some p)
scanned (Ok None ∷ rs) = scanned rs
