-- The names that stand in an expression, in textual order.
use Rattle.std.specs.Prelude.{if◌then◌else◌, List, [], ◌∷◌, ◌++◌}
use Rattle.pgo_base.specs.Tree.{Tree, name, primed, number, text, truth, at, word, unary, binary, product, cond_of, case_of, case_other, let_in, quantified, choose, tuple, set_of, filter_of, image, fun_of, fun_set, record_of, record_set, except, index, field, call, unchanged, Trees, no_trees, more_trees, NamedTrees, no_named, more_named, TreePairs, no_arms, more_arms, BoundTrees, no_bound, more_bound, PathTrees, no_paths, more_paths}
use Rattle.pgo_base.specs.Lookup.{Name, same_name}

abbrev mutual
  pub names_in : Tree → List Name
  names_in (name x) = x ∷ []
  names_in (primed x) = []
  names_in (number z) = []
  names_in (text s) = []
  names_in (truth b) = []
  names_in at = []
  names_in (word w) = []
  names_in (unary o a) = names_in a
  names_in (binary o a b) = names_in a ++ names_in b
  names_in (product ts) = names_in_all ts
  names_in (cond_of p a b) = names_in p ++ names_in a ++ names_in b
  names_in (case_of gs) = names_in_arms gs
  names_in (case_other gs e) = names_in_arms gs ++ names_in e
  names_in (let_in ds e) = names_in_named ds ++ names_in e
  names_in (quantified q bs p) = names_in_bound bs ++ names_in p
  names_in (choose x r p) = names_in r ++ names_in p
  names_in (tuple ts) = names_in_all ts
  names_in (set_of ts) = names_in_all ts
  names_in (filter_of x r p) = names_in r ++ names_in p
  names_in (image e x r) = names_in e ++ names_in r
  names_in (fun_of bs e) = names_in_bound bs ++ names_in e
  names_in (fun_set a b) = names_in a ++ names_in b
  names_in (record_of ds) = names_in_named ds
  names_in (record_set ds) = names_in_named ds
  names_in (except f us) = names_in f ++ names_in_paths us
  names_in (index f ts) = names_in f ++ names_in_all ts
  names_in (field r x) = names_in r
  names_in (call x ts) = names_in_all ts
  names_in (unchanged xs) = []

  pub names_in_all : Trees → List Name
  names_in_all no_trees = []
  names_in_all (more_trees t ts) = names_in t ++ names_in_all ts

  pub names_in_named : NamedTrees → List Name
  names_in_named no_named = []
  names_in_named (more_named x t ts) = names_in t ++ names_in_named ts

  pub names_in_arms : TreePairs → List Name
  names_in_arms no_arms = []
  names_in_arms (more_arms g e gs) = names_in g ++ names_in e ++ names_in_arms gs

  pub names_in_bound : BoundTrees → List Name
  names_in_bound no_bound = []
  names_in_bound (more_bound xs r bs) = names_in r ++ names_in_bound bs

  pub names_in_paths : PathTrees → List Name
  names_in_paths no_paths = []
  names_in_paths (more_paths ps e us) = names_in_all ps ++ names_in e ++ names_in_paths us

abbrev pub without : Name → List Name → List Name
without x [] = []
without x (y ∷ ys) = if same_name x y then without x ys else y ∷ without x ys

-- each name once, in the order of first occurrence
abbrev pub first_occurrences : List Name → List Name
first_occurrences [] = []
first_occurrences (x ∷ xs) = x ∷ without x (first_occurrences xs)
