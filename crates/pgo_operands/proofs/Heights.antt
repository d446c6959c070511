-- Operands are less high than their expression.
use Rattle.std.proofs.Common.{◌≡◌, ◌<◌, ◌≤◌, ℕ, zero, suc, max, List, [], ◌∷◌, ◌++◌, length, get_or, arith}
use denote.Ref.{Bor}
use Rattle.pgo_base.specs.declared.expr.Expr.{Expr}
use Rattle.pgo_base.specs.ExprView.{tree}
use Rattle.pgo_base.specs.Tree.{Tree, name, primed, number, text, truth, at, word, unary, binary, product, cond_of, case_of, case_other, let_in, quantified, choose, tuple, set_of, filter_of, image, fun_of, fun_set, record_of, record_set, except, index, field, call, unchanged, Trees, no_trees, more_trees, NamedTrees, no_named, more_named, TreePairs, no_arms, more_arms, BoundTrees, no_bound, more_bound, PathTrees, no_paths, more_paths}
use Rattle.pgo_base.specs.TreeSize.{height, trees_height, named_height, arms_height, bound_height, paths_height}
use Rattle.pgo_operands.specs.Operands.{lent_trees, members, named_members, arm_members, bound_members, path_members, operands}

abbrev pub highest : List Tree → ℕ
highest [] = 0
highest (t ∷ ts) = max (height t) (highest ts)

highest-append : (xs ys : List Tree) → highest (xs ++ ys) ≡ max (highest xs) (highest ys)
highest-append [] ys = omega arith
highest-append (x ∷ xs) ys = omega (arith, highest-append xs ys)

members_low : (ts : Trees) → highest (members ts) ≤ trees_height ts
members_low no_trees = omega arith
members_low (more_trees t ts) = omega (arith, members_low ts)

named_low : (ts : NamedTrees) → highest (named_members ts) ≤ named_height ts
named_low no_named = omega arith
named_low (more_named x t ts) = omega (arith, named_low ts)

arms_low : (gs : TreePairs) → highest (arm_members gs) ≤ arms_height gs
arms_low no_arms = omega arith
arms_low (more_arms g e gs) = omega (arith, arms_low gs)

bound_low : (bs : BoundTrees) → highest (bound_members bs) ≤ bound_height bs
bound_low no_bound = omega arith
bound_low (more_bound xs r bs) = omega (arith, bound_low bs)

paths_low : (us : PathTrees) → highest (path_members us) ≤ paths_height us
paths_low no_paths = omega arith
paths_low (more_paths ps e us) = omega (arith, highest-append (members ps) (e ∷ path_members us), members_low ps, paths_low us)

low : (t : Tree) → highest (operands t) < height t
low (name x) = omega arith
low (primed x) = omega arith
low (number z) = omega arith
low (text s) = omega arith
low (truth b) = omega arith
low at = omega arith
low (word w) = omega arith
low (unary o a) = omega arith
low (binary o a b) = omega arith
low (product ts) = omega (arith, members_low ts)
low (cond_of p a b) = omega arith
low (case_of gs) = omega (arith, arms_low gs)
low (case_other gs e) = omega (arith, arms_low gs, highest-append (arm_members gs) (e ∷ []))
low (let_in ds e) = omega (arith, named_low ds, highest-append (named_members ds) (e ∷ []))
low (quantified q bs p) = omega (arith, bound_low bs, highest-append (bound_members bs) (p ∷ []))
low (choose x r p) = omega arith
low (tuple ts) = omega (arith, members_low ts)
low (set_of ts) = omega (arith, members_low ts)
low (filter_of x r p) = omega arith
low (image e x r) = omega arith
low (fun_of bs e) = omega (arith, bound_low bs, highest-append (bound_members bs) (e ∷ []))
low (fun_set a b) = omega arith
low (record_of ds) = omega (arith, named_low ds)
low (record_set ds) = omega (arith, named_low ds)
low (except f us) = omega (arith, paths_low us)
low (index f ts) = omega (arith, members_low ts)
low (field r x) = omega arith
low (call x ts) = omega (arith, members_low ts)
low (unchanged xs) = omega arith

pub operands_low : (es ks : List (Bor Expr)) (t : Tree) → es ≡ ks → lent_trees ks ≡ operands t → highest (lent_trees es) < height t
operands_low es ks t e h = rw (e, h) (low t)

pub one_low : (es : List (Bor Expr)) (i : ℕ) (e : Bor Expr) → i < length es → e ≡ get_or es i e → height (tree e.now) ≤ highest (lent_trees es)
one_low [] i e h is = absurd (omega arith)
one_low (x ∷ es) zero e h is = rw is (omega arith)
one_low (x ∷ es) (suc i) e h is = omega (arith, one_low es i e (omega arith) is)
