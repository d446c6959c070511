-- Pieces of code one after the other, as frames.
use Rattle.std.proofs.Common.{◌≡◌, ℕ, List, [], ◌∷◌, refl}
use Rattle.pgo_base.specs.Lookup.{Name}
use Rattle.pgo_section_list.specs.Sections.{in_sequence}
use Rattle.pgo_sections.specs.Code.{Place, Code}
use Rattle.pgo_sections.specs.Expand.{Renames, Current, expand}
use Rattle.pgo_walk.specs.Frames.{Frame, Run, runs, goes}
use Rattle.pgo_walk.proofs.Turns.{jumps_runs, yields_runs}

module _ (vs : List Name) (ps : List (Name × Place)) (ren : Renames) (c : Code) (fs : List Frame) where
  -- pieces of code, one after the other and then c, are frames
  pub goes_in_sequence : (cs : List Code) (cur : Current) (n : ℕ)
      → goes vs (runs ps ren cs (Run ps c ren ∷ fs)) cur n ≡ goes vs (Run ps (in_sequence cs c) ren ∷ fs) cur n
  goes_in_sequence [] cur n = refl
  goes_in_sequence (d ∷ ds) cur n = λ i. expand ps d ren cur n (λ cur' n'. goes_in_sequence ds cur' n' i) (jumps_runs vs ps ren (Run ps c ren ∷ fs) ds i) (yields_runs vs ps ren (Run ps c ren ∷ fs) ds i)
