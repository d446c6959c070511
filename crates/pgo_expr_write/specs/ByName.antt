-- Variables by their names alone: a variable of a process stands for its part at `self`.
use Rattle.std.specs.Prelude.{Bool, false, ◌&&◌, if◌then◌else◌, List, Option, Some, None}
use Rattle.std.specs.List.{list_any}
use Rattle.pgo_base.specs.Lookup.{Name, same_name}
use Rattle.pgo_base.specs.Tree.{Tree, name, primed, number, text, truth, at, word, unary, binary, product, cond_of, case_of, case_other, let_in, quantified, choose, tuple, set_of, filter_of, image, fun_of, fun_set, record_of, record_set, except, index, field, call, unchanged, Trees, no_trees, more_trees, NamedTrees, no_named, more_named, TreePairs, no_arms, more_arms, BoundTrees, no_bound, more_bound, PathTrees, no_paths, more_paths}
use Rattle.pgo_model.specs.Options.{on}
use Rattle.pgo_model.specs.Written.{self_name}
use Rattle.pgo_expr_write.specs.Pieces.{Piece, written, operand}

abbrev pub is_self_name : Tree → Bool
is_self_name (name x) = same_name x self_name
is_self_name t = false

-- the one index `self`
abbrev pub is_self : Trees → Bool
is_self (more_trees t no_trees) = is_self_name t
is_self ts = false

-- the variable of these whose part at `self` is f[ts]
abbrev pub own_variable : List Name → Tree → Trees → Option Name
own_variable own (name x) ts = if list_any (λ y. same_name x y) own && is_self ts then Some x else None
own_variable own f ts = None

-- own: the process's variables
module _ (own : List Name) where
  abbrev mutual
    -- the expression with `x` in the place of each `x[self]` of these
    pub by_name : Tree → Tree
    by_name (name x) = name x
    by_name (primed x) = primed x
    by_name (number z) = number z
    by_name (text s) = text s
    by_name (truth b) = truth b
    by_name at = at
    by_name (word w) = word w
    by_name (unary o a) = unary o (by_name a)
    by_name (binary o a b) = binary o (by_name a) (by_name b)
    by_name (product ts) = product (all_by_name ts)
    by_name (cond_of p a b) = cond_of (by_name p) (by_name a) (by_name b)
    by_name (case_of gs) = case_of (arms_by_name gs)
    by_name (case_other gs e) = case_other (arms_by_name gs) (by_name e)
    by_name (let_in ds e) = let_in (named_by_name ds) (by_name e)
    by_name (quantified q bs p) = quantified q (bound_by_name bs) (by_name p)
    by_name (choose x r p) = choose x (by_name r) (by_name p)
    by_name (tuple ts) = tuple (all_by_name ts)
    by_name (set_of ts) = set_of (all_by_name ts)
    by_name (filter_of x r p) = filter_of x (by_name r) (by_name p)
    by_name (image e x r) = image (by_name e) x (by_name r)
    by_name (fun_of bs e) = fun_of (bound_by_name bs) (by_name e)
    by_name (fun_set a b) = fun_set (by_name a) (by_name b)
    by_name (record_of ds) = record_of (named_by_name ds)
    by_name (record_set ds) = record_set (named_by_name ds)
    by_name (except f us) = except (by_name f) (paths_by_name us)
    by_name (index f ts) = on (index (by_name f) (all_by_name ts)) (own_variable own f ts) name
    by_name (field r x) = field (by_name r) x
    by_name (call x ts) = call x (all_by_name ts)
    by_name (unchanged xs) = unchanged xs

    pub all_by_name : Trees → Trees
    all_by_name no_trees = no_trees
    all_by_name (more_trees t ts) = more_trees (by_name t) (all_by_name ts)

    pub named_by_name : NamedTrees → NamedTrees
    named_by_name no_named = no_named
    named_by_name (more_named x t ts) = more_named x (by_name t) (named_by_name ts)

    pub arms_by_name : TreePairs → TreePairs
    arms_by_name no_arms = no_arms
    arms_by_name (more_arms g e gs) = more_arms (by_name g) (by_name e) (arms_by_name gs)

    pub bound_by_name : BoundTrees → BoundTrees
    bound_by_name no_bound = no_bound
    bound_by_name (more_bound xs r bs) = more_bound xs (by_name r) (bound_by_name bs)

    pub paths_by_name : PathTrees → PathTrees
    paths_by_name no_paths = no_paths
    paths_by_name (more_paths ps e us) = more_paths (all_by_name ps) (by_name e) (paths_by_name us)

-- the variable of these whose part at `self` the expression is
abbrev pub own_part : List Name → Tree → Option Name
own_part own (index f ts) = own_variable own f ts
own_part own t = None

abbrev pub piece_by_name : List Name → Piece → Piece
piece_by_name own (written b) = written b
piece_by_name own (operand t) = operand (by_name own t)
