-- How many nodes the expressions of a list of work have: an expression has more than its operands.
use Rattle.std.proofs.Common.{◌≡◌, ◌<◌, ◌≤◌, ◌+◌, ℕ, List, [], ◌∷◌, ◌++◌, ap, ◌∙◌, arith}
use denote.Ref.{Bor}
use Rattle.std.proofs.lemmas.List.{map-append, map_push}
use Rattle.pgo_base.specs.declared.expr.Expr.{Expr}
use Rattle.pgo_base.specs.ExprView.{tree as expr_tree}
use Rattle.pgo_base.specs.Tree.{Tree, name, primed, number, text, truth, at, word, unary, binary, product, cond_of, case_of, case_other, let_in, quantified, choose, tuple, set_of, filter_of, image, fun_of, fun_set, record_of, record_set, except, index, field, call, unchanged, Trees, no_trees, more_trees, NamedTrees, no_named, more_named, TreePairs, no_arms, more_arms, BoundTrees, no_bound, more_bound, PathTrees, no_paths, more_paths}
use Rattle.pgo_operands.specs.Operands.{lent_trees, members, named_members, arm_members, bound_members, path_members, operands}
use Rattle.pgo_sections.specs.Nodes.{tree_nodes, trees_nodes, named_nodes, arms_nodes, bound_nodes, paths_nodes}

abbrev pub work_nodes : List Tree → ℕ
work_nodes [] = 0
work_nodes (t ∷ ts) = tree_nodes t + work_nodes ts

work-append : (ts us : List Tree) → work_nodes (ts ++ us) ≡ work_nodes ts + work_nodes us
work-append [] us = omega arith
work-append (t ∷ ts) us = omega (arith, work-append ts us)

members_nodes : (ts : Trees) → work_nodes (members ts) ≤ trees_nodes ts
members_nodes no_trees = omega arith
members_nodes (more_trees t ts) = omega (arith, members_nodes ts)

fields_nodes : (ts : NamedTrees) → work_nodes (named_members ts) ≤ named_nodes ts
fields_nodes no_named = omega arith
fields_nodes (more_named x t ts) = omega (arith, fields_nodes ts)

cases_nodes : (gs : TreePairs) → work_nodes (arm_members gs) ≤ arms_nodes gs
cases_nodes no_arms = omega arith
cases_nodes (more_arms g e gs) = omega (arith, cases_nodes gs)

sets_nodes : (bs : BoundTrees) → work_nodes (bound_members bs) ≤ bound_nodes bs
sets_nodes no_bound = omega arith
sets_nodes (more_bound xs r bs) = omega (arith, sets_nodes bs)

updates_nodes : (us : PathTrees) → work_nodes (path_members us) ≤ paths_nodes us
updates_nodes no_paths = omega arith
updates_nodes (more_paths ps e us) = omega (arith, work-append (members ps) (e ∷ path_members us), members_nodes ps, updates_nodes us)

operands_fewer : (t : Tree) → work_nodes (operands t) < tree_nodes t
operands_fewer (name x) = omega arith
operands_fewer (primed x) = omega arith
operands_fewer (number z) = omega arith
operands_fewer (text s) = omega arith
operands_fewer (truth b) = omega arith
operands_fewer at = omega arith
operands_fewer (word w) = omega arith
operands_fewer (unary o a) = omega arith
operands_fewer (binary o a b) = omega arith
operands_fewer (product ts) = omega (arith, members_nodes ts)
operands_fewer (cond_of p a b) = omega arith
operands_fewer (case_of gs) = omega (arith, cases_nodes gs)
operands_fewer (case_other gs e) = omega (arith, cases_nodes gs, work-append (arm_members gs) (e ∷ []))
operands_fewer (let_in ds e) = omega (arith, fields_nodes ds, work-append (named_members ds) (e ∷ []))
operands_fewer (quantified q bs p) = omega (arith, sets_nodes bs, work-append (bound_members bs) (p ∷ []))
operands_fewer (choose x r p) = omega arith
operands_fewer (tuple ts) = omega (arith, members_nodes ts)
operands_fewer (set_of ts) = omega (arith, members_nodes ts)
operands_fewer (filter_of x r p) = omega arith
operands_fewer (image e x r) = omega arith
operands_fewer (fun_of bs e) = omega (arith, sets_nodes bs, work-append (bound_members bs) (e ∷ []))
operands_fewer (fun_set a b) = omega arith
operands_fewer (record_of ds) = omega (arith, fields_nodes ds)
operands_fewer (record_set ds) = omega (arith, fields_nodes ds)
operands_fewer (except f us) = omega (arith, updates_nodes us)
operands_fewer (index f no_trees) = omega arith
operands_fewer (index f (more_trees t no_trees)) = omega arith
operands_fewer (index f (more_trees t (more_trees u us))) = omega (arith, members_nodes us)
operands_fewer (field r x) = omega arith
operands_fewer (call x ts) = omega (arith, members_nodes ts)
operands_fewer (unchanged xs) = omega arith

-- one is taken, and its operands stand in its place
pub work_fewer : (old rest now parts : List (Bor Expr)) (one : Bor Expr) → old ≡ rest ++ one ∷ [] → now ≡ rest ++ parts → lent_trees parts ≡ operands (expr_tree one.now) → work_nodes (lent_trees now) < work_nodes (lent_trees old)
work_fewer old rest now parts one e f g =
    let was : lent_trees old ≡ lent_trees rest ++ expr_tree one.now ∷ [] = ap lent_trees e ∙ map_push (λ e. expr_tree e.now) rest one in
    let is : lent_trees now ≡ lent_trees rest ++ operands (expr_tree one.now) = ap lent_trees f ∙ map-append (λ e. expr_tree e.now) rest parts ∙ ap (λ us. lent_trees rest ++ us) g in
    rw (was, is) (omega (arith, operands_fewer (expr_tree one.now), work-append (lent_trees rest) (expr_tree one.now ∷ []), work-append (lent_trees rest) (operands (expr_tree one.now))))
