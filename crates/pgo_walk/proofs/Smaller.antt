-- Parts of an expansion have no more nodes.
use Rattle.std.proofs.Common.{◌≡◌, ◌<◌, ◌≤◌, List, [], ◌∷◌, ◌++◌, ap, arith}
use Rattle.pgo_pluscal.specs.PartView.{around, before, expansions}
use Rattle.pgo_pluscal.specs.declared.part.Step.{Step}
use Rattle.pgo_pluscal.specs.declared.part.Step.TheVariants as steps
use Rattle.pgo_sections.specs.Expansion.{Expansion, Either}
use Rattle.pgo_sections.specs.Nodes.{nodes, arms_total}

-- what follows a statement
pub before_nodes : (s : Step) (x : Expansion) → nodes x ≤ nodes (before s x)
before_nodes (steps.With y e) x = omega arith
before_nodes (steps.In y e) x = omega arith
before_nodes steps.Skip x = omega arith
before_nodes (steps.Await e) x = omega arith
before_nodes (steps.Assert e) x = omega arith
before_nodes (steps.Print e) x = omega arith

-- what follows statements in a row
pub around_nodes : (ss : List Step) (x : Expansion) → nodes x ≤ nodes (around ss x)
around_nodes [] x = omega arith
around_nodes (s ∷ ss) x = let more = around_nodes ss x in let first = before_nodes s (around ss x) in omega arith

-- an arm of a choice
pub arm_nodes : (xs : List Expansion) (x : Expansion) (ys : List Expansion) → nodes x ≤ arms_total (expansions (xs ++ x ∷ ys))
arm_nodes [] x ys = omega arith
arm_nodes (y ∷ xs) x ys = let rest = arm_nodes xs x ys in omega arith

-- what follows a row, as the row stands for all
pub behind_row : (a x : Expansion) (ss : List Step) → a ≡ around ss x → nodes x ≤ nodes a
behind_row a x ss e = let low = around_nodes ss x in let same : nodes a ≡ nodes (around ss x) = ap nodes e in omega arith

-- an arm of all arms
pub arm_low : (all xs : List Expansion) (x : Expansion) (ys : List Expansion) → all ≡ xs ++ x ∷ ys → nodes x < nodes (Either (expansions all))
arm_low all xs x ys e =
    let low = arm_nodes xs x ys in
    let same : arms_total (expansions all) ≡ arms_total (expansions (xs ++ x ∷ ys)) = ap (λ zs. arms_total (expansions zs)) e in
    omega arith
