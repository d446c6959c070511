-- The expressions of a list are the list.
use Rattle.std.proofs.Common.{◌≡◌, List, [], ◌∷◌, ap, refl}
use Rattle.pgo_base.specs.Tree.{Tree, trees}
use Rattle.pgo_operands.specs.Operands.{members}

pub members_of : (ts : List Tree) → members (trees ts) ≡ ts
members_of [] = refl
members_of (t ∷ ts) = ap (λ l. t ∷ l) (members_of ts)
