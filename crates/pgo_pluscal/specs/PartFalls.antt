-- What follows a branch point is less deep than what leads to it.
use Rattle.std.specs.Prelude.{◌≤◌, ◌≡◌, ◌+◌, suc, max, List, [], ◌∷◌, refl}
use Rattle.std.proofs.Common.{arith}
use denote.Param.Weighed.{most}
use Rattle.pgo_sections.specs.Expansion.{Expansion}
use Rattle.pgo_pluscal.specs.declared.part.Step.{Step}
use Rattle.pgo_pluscal.specs.declared.part.Step.TheVariants as steps
use Rattle.pgo_pluscal.specs.declared.part.Ending.{Ending}
use Rattle.pgo_pluscal.specs.declared.part.Ending.TheVariants as endings
use Rattle.pgo_pluscal.specs.declared.part.Part.TheDeep.{deep-Ending}
use Rattle.pgo_pluscal.specs.PartView.{expansions, around, ending_of}
use Rattle.pgo_pluscal.specs.PartSize.{depth, arms_depth}

pub depth-around : (ss : List Step) (rest : Expansion) → depth (around ss rest) ≡ depth rest
depth-around [] rest = refl
depth-around (steps.With x e ∷ ss) rest = depth-around ss rest
depth-around (steps.In x e ∷ ss) rest = depth-around ss rest
depth-around (steps.Skip ∷ ss) rest = depth-around ss rest
depth-around (steps.Await e ∷ ss) rest = depth-around ss rest
depth-around (steps.Assert e ∷ ss) rest = depth-around ss rest
depth-around (steps.Print e ∷ ss) rest = depth-around ss rest

arms_fall : (xs : List Expansion) → most (λ x. depth x + 1) xs ≤ suc (arms_depth (expansions xs))
arms_fall [] = omega arith
arms_fall (x ∷ xs) = omega (arith, arms_fall xs)

ending_falls : (e : Ending) → max (deep-Ending e) 0 ≤ depth (ending_of e)
ending_falls (endings.End changes label) = omega arith
ending_falls (endings.If c a b) = omega arith
ending_falls (endings.Either arms) = omega (arith, arms_fall arms.items)

pub part_falls : (ss : List Step) (e : Ending) → max (deep-Ending e) 0 ≤ depth (around ss (ending_of e))
part_falls ss e = omega (arith, depth-around ss (ending_of e), ending_falls e)
