-- Heights of lists.
use Rattle.std.proofs.Common.{◌≡◌, ℕ, suc, ◌-◌, max, List, [], ◌∷◌, refl, ap, arith}
use Rattle.pgo_base.specs.Tree.{Tree, Trees, no_trees, more_trees, trees, bound, named, arms, paths}
use Rattle.pgo_base.specs.Tree as e
use Rattle.pgo_lexer.specs.declared.symbol.Symbol.{Symbol}
use Rattle.pgo_expr_read.specs.Heights.{height, trees_height, named_height, arms_height, bound_height, paths_height}
use Rattle.pgo_expr_read.specs.Kinds.{Kind, ItemOf, Name}
use Rattle.pgo_expr_read.specs.Kinds as kind
use Rattle.pgo_expr_read.specs.Spells.{appended, extended, product_of_two}

abbrev pub thing_height : (k : Kind) → ItemOf k → ℕ
thing_height kind.tree a = height a
thing_height kind.item a = height a
thing_height kind.binder p = height p.1
thing_height (kind.field v) p = height p.1
thing_height kind.definition p = height p.1
thing_height kind.arm p = max (height p.0) (height p.1)
thing_height kind.step a = height a
thing_height kind.update p = max (trees_height (trees p.0)) (height p.1)

-- the height of the highest
abbrev pub things_height : (k : Kind) → List (ItemOf k) → ℕ
things_height k [] = 0
things_height k (a ∷ as') = max (thing_height k a) (things_height k as')

pub of_trees : (as' : List Tree) → trees_height (trees as') ≡ things_height kind.tree as'
of_trees [] = refl
of_trees (a ∷ as') = ap (λ x. max (height a) x) (of_trees as')

pub of_steps : (as' : List Tree) → trees_height (trees as') ≡ things_height kind.step as'
of_steps [] = refl
of_steps (a ∷ as') = ap (λ x. max (height a) x) (of_steps as')

pub of_bound : (as' : List (List Name × Tree)) → bound_height (bound as') ≡ things_height kind.binder as'
of_bound [] = refl
of_bound (a ∷ as') = ap (λ x. max (height a.1) x) (of_bound as')

pub of_fields : (v : Symbol) (as' : List (Name × Tree)) → named_height (named as') ≡ things_height (kind.field v) as'
of_fields v [] = refl
of_fields v (a ∷ as') = ap (λ x. max (height a.1) x) (of_fields v as')

pub of_definitions : (as' : List (Name × Tree)) → named_height (named as') ≡ things_height kind.definition as'
of_definitions [] = refl
of_definitions (a ∷ as') = ap (λ x. max (height a.1) x) (of_definitions as')

pub of_arms : (as' : List (Tree × Tree)) → arms_height (arms as') ≡ things_height kind.arm as'
of_arms [] = refl
of_arms (a ∷ as') = ap (λ x. max (max (height a.0) (height a.1)) x) (of_arms as')

pub of_paths : (as' : List (List Tree × Tree)) → paths_height (paths as') ≡ things_height kind.update as'
of_paths [] = refl
of_paths (a ∷ as') = ap (λ x. max (max (trees_height (trees a.0)) (height a.1)) x) (of_paths as')

-- ---- products

of_appended : (as' : Trees) (b : Tree) → trees_height (appended as' b) ≡ max (trees_height as') (height b)
of_appended no_trees b = omega arith
of_appended (more_trees a as') b = let e = of_appended as' b in omega arith

pub two_high : (a b : Tree) → height (product_of_two a b) ≡ suc (max (height a) (height b))
unfolding product_of_two
two_high a b = omega arith

pub extended_high : (as' : Trees) (b : Tree) → height (extended (e.product as') b) ≡ suc (max (height (e.product as') - 1) (height b))
unfolding extended
extended_high as' b = let up = of_appended as' b in omega (arith, up)
