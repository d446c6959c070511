-- An expression is one higher than the highest of its operands.
use Rattle.std.proofs.Common.{◌≡◌, ◌+◌, ◌-◌, ◌<◌, ℕ, suc, max, min, Bool, List, [], ◌∷◌, ◌++◌, refl, ◌∙◌, arith}
use Rattle.pgo_base.specs.Tree.{Tree, name, primed, number, text, truth, at, word, unary, binary, product, cond_of, case_of, case_other, let_in, quantified, choose, tuple, set_of, filter_of, image, fun_of, fun_set, record_of, record_set, except, index, field, call, unchanged, Trees, no_trees, more_trees, NamedTrees, no_named, more_named, TreePairs, no_arms, more_arms, BoundTrees, no_bound, more_bound, PathTrees, no_paths, more_paths}
use Rattle.pgo_expr_read.specs.Heights.{height, trees_height, named_height, arms_height, bound_height, paths_height}
use Rattle.pgo_operands.specs.Operands.{operands, members, named_members, arm_members, bound_members, path_members}
use Rattle.pgo_sizes.specs.Sums.{highest_in, highest_of}
use Rattle.pgo_sizes.specs.Tuples.{has_tuple}

highest-append : (xs ys : List Tree) → highest_in (xs ++ ys) ≡ max (highest_in xs) (highest_in ys)
highest-append [] ys = omega arith
highest-append (x ∷ xs) ys = omega (arith, highest-append xs ys)

trees_in : (ts : Trees) → highest_in (members ts) ≡ trees_height ts
trees_in no_trees = refl
trees_in (more_trees t ts) = omega (arith, trees_in ts)

named_in : (ts : NamedTrees) → highest_in (named_members ts) ≡ named_height ts
named_in no_named = refl
named_in (more_named x t ts) = omega (arith, named_in ts)

arms_in : (gs : TreePairs) → highest_in (arm_members gs) ≡ arms_height gs
arms_in no_arms = refl
arms_in (more_arms g e gs) = omega (arith, arms_in gs)

bound_in : (bs : BoundTrees) → highest_in (bound_members bs) ≡ bound_height bs
bound_in no_bound = refl
bound_in (more_bound xs r bs) = omega (arith, bound_in bs)

paths_in : (us : PathTrees) → highest_in (path_members us) ≡ paths_height us
paths_in no_paths = refl
paths_in (more_paths ps e us) = omega (arith, highest-append (members ps) (e ∷ path_members us), trees_in ps, paths_in us)

pub height_is : (t : Tree) → height t ≡ suc (highest_of (has_tuple t) (operands t))
height_is (name x) = omega arith
height_is (primed x) = omega arith
height_is (number z) = omega arith
height_is (text s) = omega arith
height_is (truth b) = omega arith
height_is at = omega arith
height_is (word w) = omega arith
height_is (unary o a) = omega arith
height_is (binary o a b) = omega arith
height_is (product ts) = omega (arith, trees_in ts)
height_is (cond_of p a b) = omega arith
height_is (case_of gs) = omega (arith, arms_in gs)
height_is (case_other gs e) = omega (arith, arms_in gs, highest-append (arm_members gs) (e ∷ []))
height_is (let_in ds e) = omega (arith, named_in ds, highest-append (named_members ds) (e ∷ []))
height_is (quantified q bs p) = omega (arith, bound_in bs, highest-append (bound_members bs) (p ∷ []))
height_is (choose x r p) = omega arith
height_is (tuple ts) = omega (arith, trees_in ts)
height_is (set_of ts) = omega (arith, trees_in ts)
height_is (filter_of x r p) = omega arith
height_is (image e x r) = omega arith
height_is (fun_of bs e) = omega (arith, bound_in bs, highest-append (bound_members bs) (e ∷ []))
height_is (fun_set a b) = omega arith
height_is (record_of ds) = omega (arith, named_in ds)
height_is (record_set ds) = omega (arith, named_in ds)
height_is (except f us) = omega (arith, paths_in us)
height_is (index f no_trees) = omega arith
height_is (index f (more_trees t no_trees)) = omega arith
height_is (index f (more_trees t (more_trees u us))) = omega (arith, trees_in us)
height_is (field r x) = omega arith
height_is (call x ts) = omega (arith, trees_in ts)
height_is (unchanged xs) = omega arith

pub one_higher : (inside most : ℕ) (t : Tree) (b : Bool) (ps : List Tree) → b ≡ has_tuple t → ps ≡ operands t → inside ≡ min (most - 1) (highest_of b ps) → 0 < most
    → inside + 1 ≡ min most (height t)
one_higher inside most t b ps e h i low =
    let all : inside ≡ min (most - 1) (highest_of (has_tuple t) (operands t)) = i ∙ (λ z. min (most - 1) (highest_of (e z) (h z))) in
    omega (arith, all, height_is t)
