-- How many expressions a list has.
use Rattle.std.proofs.Common.{◌≡◌, List, [], ◌∷◌, map, length, refl, sym, subst, arith}
use Rattle.pgo_base.specs.declared.expr.Expr.{Expr}
use Rattle.pgo_base.specs.ExprView.{tree}
use Rattle.pgo_base.specs.Tree.{Tree, trees}
use Rattle.pgo_uses.specs.declared.pieces.Manner.TheVariants.{Plain, Indexed}
use Rattle.pgo_uses.specs.Uses.{count_trees}
use Rattle.pgo_uses.specs.Pieces.{index_manner}

pub counted : (es : List Expr) → count_trees (trees (map tree es)) ≡ length es
counted [] = refl
counted (e ∷ es) = omega (arith, counted es)

pub count_is : (es : List Expr) (ts : List Tree) → map tree es ≡ ts → length es ≡ count_trees (trees ts)
count_is es ts h = subst (λ us. length es ≡ count_trees (trees us)) h (sym (counted es))

single : (es : List Expr) → length es ≡ 1 → index_manner (trees (map tree es)) ≡ Indexed
single [] h = absurd (omega arith)
single (e ∷ []) h = refl
single (e ∷ d ∷ es) h = absurd (omega arith)

pub single_is : (es : List Expr) (ts : List Tree) → map tree es ≡ ts → length es ≡ 1 → index_manner (trees ts) ≡ Indexed
single_is es ts e h = subst (λ us. index_manner (trees us) ≡ Indexed) e (single es h)

several : (es : List Expr) → (length es ≡ 1 → ⊥) → index_manner (trees (map tree es)) ≡ Plain
several [] h = refl
several (e ∷ []) h = absurd (h refl)
several (e ∷ d ∷ es) h = refl

pub several_is : (es : List Expr) (ts : List Tree) → map tree es ≡ ts → (length es ≡ 1 → ⊥) → index_manner (trees ts) ≡ Plain
several_is es ts e h = subst (λ us. index_manner (trees us) ≡ Plain) e (several es h)
