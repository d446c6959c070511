-- The nodes of an expression are its own and those of its operands.
use Rattle.std.proofs.Common.{◌≡◌, ◌+◌, ◌-◌, ℕ, List, [], ◌∷◌, ◌++◌, Option, Some, None, refl, sym, ap, ◌∙◌, arith}
use Rattle.pgo_base.specs.Tree.{Tree, name, primed, number, text, truth, at, word, unary, binary, product, cond_of, case_of, case_other, let_in, quantified, choose, tuple, set_of, filter_of, image, fun_of, fun_set, record_of, record_set, except, index, field, call, unchanged, Trees, no_trees, more_trees, NamedTrees, no_named, more_named, TreePairs, no_arms, more_arms, BoundTrees, no_bound, more_bound, PathTrees, no_paths, more_paths}
use Rattle.pgo_operands.specs.Operands.{operands, members, named_members, arm_members, bound_members, path_members}
use Rattle.pgo_sections.specs.Nodes.{tree_nodes, trees_nodes, named_nodes, arms_nodes, bound_nodes, paths_nodes}
use Rattle.pgo_sizes.specs.Left.{left_after}
use Rattle.pgo_sizes.specs.Sums.{nodes_in}
use Rattle.pgo_sizes.specs.Tuples.{own_nodes}

nodes-append : (xs ys : List Tree) → nodes_in (xs ++ ys) ≡ nodes_in xs + nodes_in ys
nodes-append [] ys = omega arith
nodes-append (x ∷ xs) ys = omega (arith, nodes-append xs ys)

trees_in : (ts : Trees) → nodes_in (members ts) ≡ trees_nodes ts
trees_in no_trees = refl
trees_in (more_trees t ts) = omega (arith, trees_in ts)

named_in : (ts : NamedTrees) → nodes_in (named_members ts) ≡ named_nodes ts
named_in no_named = refl
named_in (more_named x t ts) = omega (arith, named_in ts)

arms_in : (gs : TreePairs) → nodes_in (arm_members gs) ≡ arms_nodes gs
arms_in no_arms = refl
arms_in (more_arms g e gs) = omega (arith, arms_in gs)

bound_in : (bs : BoundTrees) → nodes_in (bound_members bs) ≡ bound_nodes bs
bound_in no_bound = refl
bound_in (more_bound xs r bs) = omega (arith, bound_in bs)

paths_in : (us : PathTrees) → nodes_in (path_members us) ≡ paths_nodes us
paths_in no_paths = refl
paths_in (more_paths ps e us) = omega (arith, nodes-append (members ps) (e ∷ path_members us), trees_in ps, paths_in us)

pub nodes_are : (t : Tree) → tree_nodes t ≡ own_nodes t + nodes_in (operands t)
nodes_are (name x) = omega arith
nodes_are (primed x) = omega arith
nodes_are (number z) = omega arith
nodes_are (text s) = omega arith
nodes_are (truth b) = omega arith
nodes_are at = omega arith
nodes_are (word w) = omega arith
nodes_are (unary o a) = omega arith
nodes_are (binary o a b) = omega arith
nodes_are (product ts) = omega (arith, trees_in ts)
nodes_are (cond_of p a b) = omega arith
nodes_are (case_of gs) = omega (arith, arms_in gs)
nodes_are (case_other gs e) = omega (arith, arms_in gs, nodes-append (arm_members gs) (e ∷ []))
nodes_are (let_in ds e) = omega (arith, named_in ds, nodes-append (named_members ds) (e ∷ []))
nodes_are (quantified q bs p) = omega (arith, bound_in bs, nodes-append (bound_members bs) (p ∷ []))
nodes_are (choose x r p) = omega arith
nodes_are (tuple ts) = omega (arith, trees_in ts)
nodes_are (set_of ts) = omega (arith, trees_in ts)
nodes_are (filter_of x r p) = omega arith
nodes_are (image e x r) = omega arith
nodes_are (fun_of bs e) = omega (arith, bound_in bs, nodes-append (bound_members bs) (e ∷ []))
nodes_are (fun_set a b) = omega arith
nodes_are (record_of ds) = omega (arith, named_in ds)
nodes_are (record_set ds) = omega (arith, named_in ds)
nodes_are (except f us) = omega (arith, paths_in us)
nodes_are (index f no_trees) = omega arith
nodes_are (index f (more_trees t no_trees)) = omega arith
nodes_are (index f (more_trees t (more_trees u us))) = omega (arith, trees_in us)
nodes_are (field r x) = omega arith
nodes_are (call x ts) = omega (arith, trees_in ts)
nodes_are (unchanged xs) = omega arith

-- where there is less than m, there is less than more
pub less_left : (l m n : ℕ) → left_after l m ≡ None → left_after l (m + n) ≡ None
less_left l m n h = grind (arith, h)

-- what is left behind m and n
pub both_left : (l m n r : ℕ) → left_after l m ≡ Some r → left_after r n ≡ left_after l (m + n)
both_left l m n r h = grind (arith, h)

pub none_of : (l m : ℕ) (t : Tree) (o : Option ℕ) → m ≡ own_nodes t → o ≡ left_after l m → o ≡ None → None ≡ left_after l (tree_nodes t)
none_of l m t o e h n =
    sym (ap (left_after l) (nodes_are t) ∙ less_left l (own_nodes t) (nodes_in (operands t)) (ap (left_after l) (sym e) ∙ sym h ∙ n))

pub some_of : (l m r : ℕ) (t : Tree) (o : Option ℕ) (ps : List Tree) → m ≡ own_nodes t → o ≡ left_after l m → o ≡ Some r → ps ≡ operands t
    → left_after r (nodes_in ps) ≡ left_after l (tree_nodes t)
some_of l m r t o ps e h n p =
    ap (λ q. left_after r (nodes_in q)) p
    ∙ both_left l (own_nodes t) (nodes_in (operands t)) r (ap (left_after l) (sym e) ∙ sym h ∙ n)
    ∙ ap (left_after l) (sym (nodes_are t))
