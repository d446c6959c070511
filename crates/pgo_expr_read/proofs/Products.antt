-- Products of one more.
use Rattle.std.proofs.Common.{◌≡◌, List, [], ◌∷◌, ◌++◌, refl, ap}
use Rattle.pgo_base.specs.Tree.{Tree, trees, more_trees}
use Rattle.pgo_expr_read.specs.Spells.{appended}

pub appended_trees : (as' : List Tree) (b : Tree) → appended (trees as') b ≡ trees (as' ++ b ∷ [])
appended_trees [] b = refl
appended_trees (a ∷ as') b = ap (λ x. more_trees a x) (appended_trees as' b)
