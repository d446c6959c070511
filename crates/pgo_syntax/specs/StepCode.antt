-- Paths of left sides as trees of numbers, by which a proof tells them apart.
use Rattle.std.specs.Prelude.{◌≡◌, ◌⊎◌, ℕ, List, refl}
use Rattle.std.proofs.Common.{inl, inr}
use Rattle.std.specs.Coded.{Coded}
use Rattle.pgo_base.specs.Tree.{Tree}
use Rattle.pgo_syntax.specs.declared.assignment.Step.{Step}
use Rattle.pgo_syntax.specs.declared.assignment.Step.TheVariants.{Index, Field}
use Rattle.pgo_syntax.specs.Packed.{Packed, packed_by, packed⊎, packed_name, packed_tree, packed_list, coded_of}

abbrev step_parts : Step → Tree ⊎ List ℕ
step_parts (Index e) = inl e
step_parts (Field f) = inr f

abbrev step_from : Tree ⊎ List ℕ → Step
step_from (inl e) = Index e
step_from (inr f) = Field f

pub step_back : (s : Step) → step_from (step_parts s) ≡ s
step_back (Index e) = refl
step_back (Field f) = refl

abbrev pub packed_step : Packed Step
packed_step = packed_by (Tree ⊎ List ℕ) (packed⊎ packed_tree packed_name) step_parts step_from step_back

abbrev pub packed_path : Packed (List Step)
packed_path = packed_list packed_step

abbrev pub coded_path : Coded (List Step)
coded_path = coded_of packed_path
