-- The items of a conjunction along its left side, side by side.
use Rattle.std.specs.Prelude.{List, ◌∷◌, Option, Some, None}
use Rattle.pgo_base.specs.declared.expr.Infix.TheVariants as infixs
use Rattle.pgo_base.specs.Tree.{Tree, binary}
use Rattle.pgo_model.specs.ModuleText.{conjuncts}

-- the two sides of a conjunction
abbrev pub sides : Tree → Option (Tree × Tree)
sides (binary infixs.And a b) = Some (a, b)
sides e = None

abbrev pub conjuncts_by : Option (Tree × Tree) → Tree → List Tree → List Tree
conjuncts_by None e rest = e ∷ rest
conjuncts_by (Some p) e rest = conjuncts p.0 (p.1 ∷ rest)
