-- How many expressions and binders a list has.
use Rattle.std.proofs.Common.{◌≡◌, ◌<◌, ◌≤◌, ℕ, true, false, nat_lt, List, [], ◌∷◌, map, length, refl, sym, ap, ◌∙◌, arith}
use Rattle.std.specs.Prelude.{if◌then◌else◌}
use Rattle.pgo_base.specs.declared.expr.Expr.{Expr}
use Rattle.pgo_base.specs.ExprView.{tree, bound_tree}
use Rattle.pgo_base.specs.Lookup.{Name}
use Rattle.pgo_base.specs.Tree.{Tree, trees, tuple, bound}
use Rattle.pgo_sections.specs.Access.{index_tree}
use Rattle.pgo_rewrite.specs.Scoped.{count_bound, at_body}

counted : (bs : List (List Name × Expr)) → length bs ≡ count_bound (bound (map bound_tree bs))
counted [] = refl
counted (b ∷ bs) = omega (arith, counted bs)

pub bound_counted : (bs : List (List Name × Expr)) (ts : List (List Name × Tree)) → map bound_tree bs ≡ ts → length bs ≡ count_bound (bound ts)
bound_counted bs ts e = counted bs ∙ ap (λ l. count_bound (bound l)) e

is_below : (i n : ℕ) → i < n → nat_lt i n ≡ true
is_below i n h = grind (arith, h)

is_not_below : (i n : ℕ) → n ≤ i → nat_lt i n ≡ false
is_not_below i n h = grind (arith, h)

pub before_body : (m n i : ℕ) → i < m → 0 ≡ at_body m n i
before_body m n i h = sym (ap (λ b. if b then 0 else n) (is_below i m h))

pub behind_body : (m n i : ℕ) → m ≤ i → n ≡ at_body m n i
behind_body m n i h = sym (ap (λ b. if b then 0 else n) (is_not_below i m h))

pub several : (es : List Expr) → (length es ≡ 1 → ⊥) → tuple (trees (map tree es)) ≡ index_tree (trees (map tree es))
several [] h = refl
several (e ∷ []) h = absurd (h refl)
several (e ∷ f ∷ es) h = refl
