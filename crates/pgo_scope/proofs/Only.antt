-- Lists that don't have one expression alone.
use Rattle.std.proofs.Common.{◌≡◌, List, [], ◌∷◌, map, length, refl, subst}
use Rattle.std.specs.Prelude.{None}
use Rattle.pgo_base.specs.declared.expr.Expr.{Expr}
use Rattle.pgo_base.specs.ExprView.{tree}
use Rattle.pgo_base.specs.Tree.{Tree, trees}
use Rattle.pgo_syntax.specs.Lefts.{only}

none_only : (es : List Expr) → (length es ≡ 1 → ⊥) → only (trees (map tree es)) ≡ None
none_only [] h = refl
none_only (e ∷ []) h = absurd (h refl)
none_only (e ∷ d ∷ es) h = refl

pub not_only : (es : List Expr) (ts : List Tree) → map tree es ≡ ts → (length es ≡ 1 → ⊥) → only (trees ts) ≡ None
not_only es ts e h = subst (λ us. only (trees us) ≡ None) e (none_only es h)
