-- The height of an expression that the limit is on: a leaf has height 1, and every subexpression counts. The index of `f[a, b]` is
-- a tuple with a node of its own, and a path of EXCEPT has none.
use Rattle.std.specs.Prelude.{ℕ, zero, suc, max}
use Rattle.pgo_base.specs.Tree.{Tree, name, primed, number, text, truth, at, word, unary, binary, product, cond_of, case_of, case_other, let_in, quantified, choose, tuple, set_of, filter_of, image, fun_of, fun_set, record_of, record_set, except, index, field, call, unchanged, Trees, no_trees, more_trees, NamedTrees, no_named, more_named, TreePairs, no_arms, more_arms, BoundTrees, no_bound, more_bound, PathTrees, no_paths, more_paths}

abbrev mutual
  pub height : Tree → ℕ
  height (name x) = suc 0
  height (primed x) = suc 0
  height (number x) = suc 0
  height (text x) = suc 0
  height (truth x) = suc 0
  height at = suc 0
  height (word x) = suc 0
  height (unary x y) = suc (height y)
  height (binary x y z) = suc (max (height y) (height z))
  height (product x) = suc (trees_height x)
  height (cond_of x y z) = suc (max (max (height x) (height y)) (height z))
  height (case_of x) = suc (arms_height x)
  height (case_other x y) = suc (max (arms_height x) (height y))
  height (let_in x y) = suc (max (named_height x) (height y))
  height (quantified x y z) = suc (max (bound_height y) (height z))
  height (choose x y z) = suc (max (height y) (height z))
  height (tuple x) = suc (trees_height x)
  height (set_of x) = suc (trees_height x)
  height (filter_of x y z) = suc (max (height y) (height z))
  height (image x y z) = suc (max (height x) (height z))
  height (fun_of x y) = suc (max (bound_height x) (height y))
  height (fun_set x y) = suc (max (height x) (height y))
  height (record_of x) = suc (named_height x)
  height (record_set x) = suc (named_height x)
  height (except x y) = suc (max (height x) (paths_height y))
  height (index x (more_trees t no_trees)) = suc (max (height x) (height t))
  height (index x no_trees) = suc (max (height x) (suc zero))
  height (index x (more_trees t (more_trees u us))) = suc (max (height x) (suc (max (height t) (max (height u) (trees_height us)))))
  height (field x y) = suc (height x)
  height (call x y) = suc (trees_height y)
  height (unchanged x) = suc 0

  pub trees_height : Trees → ℕ
  trees_height no_trees = 0
  trees_height (more_trees t ts) = max (height t) (trees_height ts)

  pub named_height : NamedTrees → ℕ
  named_height no_named = 0
  named_height (more_named n t ts) = max (height t) (named_height ts)

  pub arms_height : TreePairs → ℕ
  arms_height no_arms = 0
  arms_height (more_arms s t ts) = max (max (height s) (height t)) (arms_height ts)

  pub bound_height : BoundTrees → ℕ
  bound_height no_bound = 0
  bound_height (more_bound ns t ts) = max (height t) (bound_height ts)

  pub paths_height : PathTrees → ℕ
  paths_height no_paths = 0
  paths_height (more_paths ps t ts) = max (max (trees_height ps) (height t)) (paths_height ts)
