-- How many expressions a list has.
use Rattle.std.proofs.Common.{◌≡◌, ℕ, suc, true, false, not, nat_eq, List, [], ◌∷◌, map, length, ap, ◌∙◌, arith}
use Rattle.pgo_base.specs.declared.expr.Expr.{Expr}
use Rattle.pgo_base.specs.ExprView.{tree}
use Rattle.pgo_base.specs.Tree.{Tree, trees}
use Rattle.pgo_sizes.specs.Tuples.{are_several}

none_is : nat_eq 0 1 ≡ false
none_is = grind arith

one_is : nat_eq 1 1 ≡ true
one_is = grind arith

more_are : (n : ℕ) → nat_eq (suc (suc n)) 1 ≡ false
more_are n = grind arith

counted : (es : List Expr) → not (nat_eq (length es) 1) ≡ are_several (trees (map tree es))
counted [] = ap not none_is
counted (e ∷ []) = ap not one_is
counted (e ∷ f ∷ es) = ap not (more_are (length es))

pub several : (es : List Expr) (ts : List Tree) → map tree es ≡ ts → not (nat_eq (length es) 1) ≡ are_several (trees ts)
several es ts e = counted es ∙ ap (λ l. are_several (trees l)) e
