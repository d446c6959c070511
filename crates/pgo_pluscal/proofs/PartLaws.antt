-- Statements in a row behind others in a row.
use Rattle.std.specs.Prelude.{◌≡◌, List, [], ◌∷◌, ◌++◌, refl}
use Rattle.std.proofs.Common.{ap}
use Rattle.pgo_sections.specs.Expansion.{Expansion}
use Rattle.pgo_pluscal.specs.declared.part.Step.{Step}
use Rattle.pgo_pluscal.specs.PartView.{before, around}

pub around-append : (xs ys : List Step) (rest : Expansion) → around (xs ++ ys) rest ≡ around xs (around ys rest)
around-append [] ys rest = refl
around-append (x ∷ xs) ys rest = ap (before x) (around-append xs ys rest)
