-- Statements in a row, and one more behind them.
use Rattle.std.proofs.Common.{◌≡◌, List, [], ◌∷◌, ◌++◌, refl, ap}
use Rattle.pgo_pluscal.specs.PartView.{around, before}
use Rattle.pgo_pluscal.specs.declared.part.Step.{Step}
use Rattle.pgo_sections.specs.Expansion.{Expansion}

pub around_more : (ss : List Step) (s : Step) (x : Expansion) → around (ss ++ s ∷ []) x ≡ around ss (before s x)
around_more [] s x = refl
around_more (r ∷ rs) s x = ap (before r) (around_more rs s x)
