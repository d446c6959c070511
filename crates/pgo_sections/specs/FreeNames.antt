-- The names that stand free in an expression, in textual order, each as often as it stands there.
use Rattle.std.specs.Prelude.{if◌then◌else◌, List, [], ◌∷◌, ◌++◌}
use Rattle.pgo_base.specs.Tree.{Tree, name, primed, number, text, truth, at, word, unary, binary, product, cond_of, case_of, case_other, let_in, quantified, choose, tuple, set_of, filter_of, image, fun_of, fun_set, record_of, record_set, except, index, field, call, unchanged, Trees, no_trees, more_trees, NamedTrees, no_named, more_named, TreePairs, no_arms, more_arms, BoundTrees, no_bound, more_bound, PathTrees, no_paths, more_paths}
use Rattle.pgo_base.specs.Lookup.{Name}
use Rattle.pgo_model.specs.Names.{is_among}
use Rattle.pgo_sections.specs.Bound.{names_of, names_bound, below}

-- `under`: the names that are bound around it
abbrev mutual
  pub free_names : List Name → Tree → List Name
  free_names under (name x) = if is_among x under then [] else x ∷ []
  free_names under (primed x) = []
  free_names under (number z) = []
  free_names under (text s) = []
  free_names under (truth b) = []
  free_names under at = []
  free_names under (word w) = []
  free_names under (unary o a) = free_names under a
  free_names under (binary o a b) = free_names under a ++ free_names under b
  free_names under (product ts) = free_names_all under ts
  free_names under (cond_of p a b) = free_names under p ++ free_names under a ++ free_names under b
  free_names under (case_of gs) = free_names_arms under gs
  free_names under (case_other gs e) = free_names_arms under gs ++ free_names under e
  free_names under (let_in ds e) = free_names_let under ds ++ free_names (below (names_of ds) under) e
  free_names under (quantified q bs p) = free_names_bound under bs ++ free_names (below (names_bound bs) under) p
  free_names under (choose x r p) = free_names under r ++ free_names (x ∷ under) p
  free_names under (tuple ts) = free_names_all under ts
  free_names under (set_of ts) = free_names_all under ts
  free_names under (filter_of x r p) = free_names under r ++ free_names (x ∷ under) p
  free_names under (image e x r) = free_names (x ∷ under) e ++ free_names under r
  free_names under (fun_of bs e) = free_names_bound under bs ++ free_names (below (names_bound bs) under) e
  free_names under (fun_set a b) = free_names under a ++ free_names under b
  free_names under (record_of ds) = free_names_fields under ds
  free_names under (record_set ds) = free_names_fields under ds
  free_names under (except f us) = free_names under f ++ free_names_paths under us
  free_names under (index f ts) = free_names under f ++ free_names_all under ts
  free_names under (field r x) = free_names under r
  free_names under (call x ts) = free_names_all under ts
  free_names under (unchanged xs) = []

  pub free_names_all : List Name → Trees → List Name
  free_names_all under no_trees = []
  free_names_all under (more_trees t ts) = free_names under t ++ free_names_all under ts

  pub free_names_fields : List Name → NamedTrees → List Name
  free_names_fields under no_named = []
  free_names_fields under (more_named x t ts) = free_names under t ++ free_names_fields under ts

  -- the expression of a LET name sees the names before it
  pub free_names_let : List Name → NamedTrees → List Name
  free_names_let under no_named = []
  free_names_let under (more_named x t ts) = free_names under t ++ free_names_let (x ∷ under) ts

  pub free_names_arms : List Name → TreePairs → List Name
  free_names_arms under no_arms = []
  free_names_arms under (more_arms g e gs) = free_names under g ++ free_names under e ++ free_names_arms under gs

  pub free_names_bound : List Name → BoundTrees → List Name
  free_names_bound under no_bound = []
  free_names_bound under (more_bound xs r bs) = free_names under r ++ free_names_bound under bs

  pub free_names_paths : List Name → PathTrees → List Name
  free_names_paths under no_paths = []
  free_names_paths under (more_paths ps e us) = free_names_all under ps ++ free_names under e ++ free_names_paths under us
