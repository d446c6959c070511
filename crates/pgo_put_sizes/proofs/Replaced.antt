-- An expression has no fewer nodes when others stand in the place of its names.
use Rattle.std.proofs.Common.{◌<◌, ◌≤◌, List, [], ◌∷◌, arith}
use Rattle.pgo_base.specs.Lookup.{Name}
use Rattle.pgo_base.specs.Tree.{Tree, name, primed, number, text, truth, at, word, unary, binary, product, cond_of, case_of, case_other, let_in, quantified, choose, tuple, set_of, filter_of, image, fun_of, fun_set, record_of, record_set, except, index, field, call, unchanged, Trees, no_trees, more_trees, NamedTrees, no_named, more_named, TreePairs, no_arms, more_arms, BoundTrees, no_bound, more_bound, PathTrees, no_paths, more_paths}
use Rattle.pgo_sections.specs.Bound.{names_of, names_bound, below}
use Rattle.pgo_sections.specs.Code.{Place}
use Rattle.pgo_sections.specs.Expand.{Renames, Current, current_name, current_tree}
use Rattle.pgo_sections.specs.Nodes.{tree_nodes, trees_nodes, named_nodes, arms_nodes, bound_nodes, paths_nodes}
use Rattle.pgo_sections.specs.Replaced.{replaced, replaced_all, replaced_arms, replaced_fields, replaced_let, replaced_bound, replaced_paths}

-- an expression has a node
pub some_nodes : (t : Tree) → 0 < tree_nodes t
some_nodes (name x) = omega arith
some_nodes (primed x) = omega arith
some_nodes (number z) = omega arith
some_nodes (text s) = omega arith
some_nodes (truth b) = omega arith
some_nodes at = omega arith
some_nodes (word w) = omega arith
some_nodes (unary o a) = omega arith
some_nodes (binary o a b) = omega arith
some_nodes (product ts) = omega arith
some_nodes (cond_of p a b) = omega arith
some_nodes (case_of gs) = omega arith
some_nodes (case_other gs e) = omega arith
some_nodes (let_in ds e) = omega arith
some_nodes (quantified q bs p) = omega arith
some_nodes (choose x r p) = omega arith
some_nodes (tuple ts) = omega arith
some_nodes (set_of ts) = omega arith
some_nodes (filter_of x r p) = omega arith
some_nodes (image e x r) = omega arith
some_nodes (fun_of bs e) = omega arith
some_nodes (fun_set a b) = omega arith
some_nodes (record_of ds) = omega arith
some_nodes (record_set ds) = omega arith
some_nodes (except f us) = omega arith
some_nodes (index f no_trees) = omega arith
some_nodes (index f (more_trees t no_trees)) = omega arith
some_nodes (index f (more_trees t (more_trees u us))) = omega arith
some_nodes (field r x) = omega arith
some_nodes (call x ts) = omega arith
some_nodes (unchanged xs) = omega arith

module _ (f : List Name → Name → Tree) where
  mutual
    pub replaced_nodes : (u : List Name) (t : Tree) → tree_nodes t ≤ tree_nodes (replaced f u t)
    replaced_nodes u (name x) = omega (arith, some_nodes (f u x))
    replaced_nodes u (primed x) = omega arith
    replaced_nodes u (number z) = omega arith
    replaced_nodes u (text s) = omega arith
    replaced_nodes u (truth b) = omega arith
    replaced_nodes u at = omega arith
    replaced_nodes u (word w) = omega arith
    replaced_nodes u (unary o a) = omega (arith, replaced_nodes u a)
    replaced_nodes u (binary o a b) = omega (arith, replaced_nodes u a, replaced_nodes u b)
    replaced_nodes u (product ts) = omega (arith, all_nodes u ts)
    replaced_nodes u (cond_of p a b) = omega (arith, replaced_nodes u p, replaced_nodes u a, replaced_nodes u b)
    replaced_nodes u (case_of gs) = omega (arith, arm_nodes u gs)
    replaced_nodes u (case_other gs e) = omega (arith, arm_nodes u gs, replaced_nodes u e)
    replaced_nodes u (let_in ds e) = omega (arith, let_nodes u ds, replaced_nodes (below (names_of ds) u) e)
    replaced_nodes u (quantified q bs p) = omega (arith, binder_nodes u bs, replaced_nodes (below (names_bound bs) u) p)
    replaced_nodes u (choose x r p) = omega (arith, replaced_nodes u r, replaced_nodes (x ∷ u) p)
    replaced_nodes u (tuple ts) = omega (arith, all_nodes u ts)
    replaced_nodes u (set_of ts) = omega (arith, all_nodes u ts)
    replaced_nodes u (filter_of x r p) = omega (arith, replaced_nodes u r, replaced_nodes (x ∷ u) p)
    replaced_nodes u (image e x r) = omega (arith, replaced_nodes (x ∷ u) e, replaced_nodes u r)
    replaced_nodes u (fun_of bs e) = omega (arith, binder_nodes u bs, replaced_nodes (below (names_bound bs) u) e)
    replaced_nodes u (fun_set a b) = omega (arith, replaced_nodes u a, replaced_nodes u b)
    replaced_nodes u (record_of ds) = omega (arith, field_nodes u ds)
    replaced_nodes u (record_set ds) = omega (arith, field_nodes u ds)
    replaced_nodes u (except a us) = omega (arith, replaced_nodes u a, path_nodes u us)
    replaced_nodes u (index a no_trees) = omega (arith, replaced_nodes u a)
    replaced_nodes u (index a (more_trees t no_trees)) = omega (arith, replaced_nodes u a, replaced_nodes u t)
    replaced_nodes u (index a (more_trees t (more_trees v vs))) = omega (arith, replaced_nodes u a, replaced_nodes u t, replaced_nodes u v, all_nodes u vs)
    replaced_nodes u (field r x) = omega (arith, replaced_nodes u r)
    replaced_nodes u (call x ts) = omega (arith, all_nodes u ts)
    replaced_nodes u (unchanged xs) = omega arith

    pub all_nodes : (u : List Name) (ts : Trees) → trees_nodes ts ≤ trees_nodes (replaced_all f u ts)
    all_nodes u no_trees = omega arith
    all_nodes u (more_trees t ts) = omega (arith, replaced_nodes u t, all_nodes u ts)

    pub arm_nodes : (u : List Name) (ts : TreePairs) → arms_nodes ts ≤ arms_nodes (replaced_arms f u ts)
    arm_nodes u no_arms = omega arith
    arm_nodes u (more_arms g e gs) = omega (arith, replaced_nodes u g, replaced_nodes u e, arm_nodes u gs)

    pub field_nodes : (u : List Name) (ts : NamedTrees) → named_nodes ts ≤ named_nodes (replaced_fields f u ts)
    field_nodes u no_named = omega arith
    field_nodes u (more_named x t ts) = omega (arith, replaced_nodes u t, field_nodes u ts)

    pub let_nodes : (u : List Name) (ts : NamedTrees) → named_nodes ts ≤ named_nodes (replaced_let f u ts)
    let_nodes u no_named = omega arith
    let_nodes u (more_named x t ts) = omega (arith, replaced_nodes u t, let_nodes (x ∷ u) ts)

    pub binder_nodes : (u : List Name) (ts : BoundTrees) → bound_nodes ts ≤ bound_nodes (replaced_bound f u ts)
    binder_nodes u no_bound = omega arith
    binder_nodes u (more_bound xs r bs) = omega (arith, replaced_nodes u r, binder_nodes u bs)

    pub path_nodes : (u : List Name) (ts : PathTrees) → paths_nodes ts ≤ paths_nodes (replaced_paths f u ts)
    path_nodes u no_paths = omega arith
    path_nodes u (more_paths ps e us) = omega (arith, all_nodes u ps, replaced_nodes u e, path_nodes u us)

-- so it has in current names
pub current_nodes : (ps : List (Name × Place)) (ren : Renames) (cur : Current) (e : Tree) → tree_nodes e ≤ tree_nodes (current_tree ps ren cur e)
current_nodes ps ren cur e = replaced_nodes (current_name ps ren cur) [] e
