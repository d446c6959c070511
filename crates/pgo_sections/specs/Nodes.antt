-- How large an expansion is: what the limit on expansions counts, and how many names are bound on a path.
--
-- Source: this project's choice.
use Rattle.std.specs.Prelude.{ℕ, suc, ◌+◌, max, List, [], ◌∷◌}
use Rattle.pgo_base.specs.Lookup.{Name}
use Rattle.pgo_base.specs.Tree.{Tree, name, primed, number, text, truth, at, word, unary, binary, product, cond_of, case_of, case_other, let_in, quantified, choose, tuple, set_of, filter_of, image, fun_of, fun_set, record_of, record_set, except, index, field, call, unchanged, Trees, no_trees, more_trees, NamedTrees, no_named, more_named, TreePairs, no_arms, more_arms, BoundTrees, no_bound, more_bound, PathTrees, no_paths, more_paths}
use Rattle.pgo_sections.specs.Expansion.{Expansion, With, In, Skip, Await, Assert, Print, If, Either, End, Expansions, no_expansions, more_expansions}

-- one for the expression itself, and one for each of the expressions in it; the index of `f[a, b]` has one for its tuple
abbrev mutual
  pub tree_nodes : Tree → ℕ
  tree_nodes (name x) = 1
  tree_nodes (primed x) = 1
  tree_nodes (number z) = 1
  tree_nodes (text s) = 1
  tree_nodes (truth b) = 1
  tree_nodes at = 1
  tree_nodes (word w) = 1
  tree_nodes (unary o a) = suc (tree_nodes a)
  tree_nodes (binary o a b) = suc (tree_nodes a + tree_nodes b)
  tree_nodes (product ts) = suc (trees_nodes ts)
  tree_nodes (cond_of p a b) = suc (tree_nodes p + (tree_nodes a + tree_nodes b))
  tree_nodes (case_of gs) = suc (arms_nodes gs)
  tree_nodes (case_other gs e) = suc (arms_nodes gs + tree_nodes e)
  tree_nodes (let_in ds e) = suc (named_nodes ds + tree_nodes e)
  tree_nodes (quantified q bs p) = suc (bound_nodes bs + tree_nodes p)
  tree_nodes (choose x r p) = suc (tree_nodes r + tree_nodes p)
  tree_nodes (tuple ts) = suc (trees_nodes ts)
  tree_nodes (set_of ts) = suc (trees_nodes ts)
  tree_nodes (filter_of x r p) = suc (tree_nodes r + tree_nodes p)
  tree_nodes (image e x r) = suc (tree_nodes e + tree_nodes r)
  tree_nodes (fun_of bs e) = suc (bound_nodes bs + tree_nodes e)
  tree_nodes (fun_set a b) = suc (tree_nodes a + tree_nodes b)
  tree_nodes (record_of ds) = suc (named_nodes ds)
  tree_nodes (record_set ds) = suc (named_nodes ds)
  tree_nodes (except f us) = suc (tree_nodes f + paths_nodes us)
  tree_nodes (index f no_trees) = suc (suc (tree_nodes f))
  tree_nodes (index f (more_trees t no_trees)) = suc (tree_nodes f + tree_nodes t)
  tree_nodes (index f (more_trees t (more_trees u us))) = suc (suc (tree_nodes f + (tree_nodes t + (tree_nodes u + trees_nodes us))))
  tree_nodes (field r x) = suc (tree_nodes r)
  tree_nodes (call x ts) = suc (trees_nodes ts)
  tree_nodes (unchanged xs) = 1

  pub trees_nodes : Trees → ℕ
  trees_nodes no_trees = 0
  trees_nodes (more_trees t ts) = tree_nodes t + trees_nodes ts

  pub named_nodes : NamedTrees → ℕ
  named_nodes no_named = 0
  named_nodes (more_named x t ts) = tree_nodes t + named_nodes ts

  pub arms_nodes : TreePairs → ℕ
  arms_nodes no_arms = 0
  arms_nodes (more_arms g e gs) = tree_nodes g + (tree_nodes e + arms_nodes gs)

  pub bound_nodes : BoundTrees → ℕ
  bound_nodes no_bound = 0
  bound_nodes (more_bound xs r bs) = tree_nodes r + bound_nodes bs

  pub paths_nodes : PathTrees → ℕ
  paths_nodes no_paths = 0
  paths_nodes (more_paths ps e us) = trees_nodes ps + (tree_nodes e + paths_nodes us)

-- of an assignment of a made name: the statement, and its right side
abbrev pub change_nodes : ℕ
change_nodes = 2

-- of the assignments of an end
abbrev pub changes_nodes : List (Name × Name) → ℕ
changes_nodes [] = 0
changes_nodes (c ∷ cs) = change_nodes + changes_nodes cs

abbrev mutual
  -- one for each statement, once for each place where it stands; one for each `skip` and each macro's call that is walked on the
  -- way; and those of the expressions in them
  pub nodes : Expansion → ℕ
  nodes (With x e rest) = suc (tree_nodes e + nodes rest)
  nodes (In x e rest) = suc (tree_nodes e + nodes rest)
  nodes (Skip rest) = suc (nodes rest)
  nodes (Await e rest) = suc (tree_nodes e + nodes rest)
  nodes (Assert e rest) = suc (tree_nodes e + nodes rest)
  nodes (Print e rest) = suc (tree_nodes e + nodes rest)
  nodes (If e a b) = suc (tree_nodes e + (nodes a + nodes b))
  nodes (Either xs) = suc (arms_total xs)
  nodes (End changes label) = suc (changes_nodes changes)

  pub arms_total : Expansions → ℕ
  arms_total no_expansions = 0
  arms_total (more_expansions x xs) = nodes x + arms_total xs

abbrev mutual
  -- the most names that a path through it binds
  pub most_names : Expansion → ℕ
  most_names (With x e rest) = suc (most_names rest)
  most_names (In x e rest) = suc (most_names rest)
  most_names (Skip rest) = most_names rest
  most_names (Await e rest) = most_names rest
  most_names (Assert e rest) = most_names rest
  most_names (Print e rest) = most_names rest
  most_names (If e a b) = max (most_names a) (most_names b)
  most_names (Either xs) = most_of_arms xs
  most_names (End changes label) = 0

  pub most_of_arms : Expansions → ℕ
  most_of_arms no_expansions = 0
  most_of_arms (more_expansions x xs) = max (most_names x) (most_of_arms xs)
