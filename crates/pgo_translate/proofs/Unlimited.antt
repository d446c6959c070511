-- Values within no limits: sets and functions are in order, and nothing else is asked.
use Rattle.std.specs.Prelude.{true, refl}
use Rattle.pgo_base.specs.Data.{Data}
use Rattle.pgo_base.specs.Tree.{Tree, name, primed, number, text, truth, at, word, unary, binary, product, cond_of, case_of, case_other, let_in, quantified, choose, tuple, set_of, filter_of, image, fun_of, fun_set, record_of, record_set, except, index, field, call, unchanged, Trees, no_trees, more_trees, NamedTrees, no_named, more_named, TreePairs, no_arms, more_arms, BoundTrees, no_bound, more_bound, PathTrees, no_paths, more_paths}
use Rattle.pgo_values.specs.Limits.{Limits}
use Rattle.pgo_values.specs.Literals.{LiteralsWithin, TreesWithin, NamedTreesWithin, ArmsWithin, BoundWithin, PathsWithin}
use Rattle.pgo_values.specs.Within.{IsWithin}

abbrev pub unlimited : Limits
unlimited = record {
  number = λ z. true;
  text = λ s. true;
  model = λ s. true;
  members = λ n. true;
  pairs = λ n. true;
  numbers_fit = λ z h. refl;
  between = λ y k d l h g. refl;
  quotients = λ y z l h. refl;
  remainders = λ y z l h. refl;
  few_members = λ n l. refl;
  few_pairs = λ n l. refl;
  members_fit = λ n h. refl;
  pairs_over = λ m n l h. refl;
  default = refl;
}

-- its sets and functions are in order
abbrev pub IsOrdered : Data → Type 0
IsOrdered = IsWithin unlimited

-- nothing is asked of literals
mutual
  pub any_literals : (e : Tree) → LiteralsWithin unlimited e
  any_literals (name x) = tt
  any_literals (primed x) = tt
  any_literals (number z) = refl
  any_literals (text t) = refl
  any_literals (truth b) = tt
  any_literals at = tt
  any_literals (word w) = tt
  any_literals (unary o a) = any_literals a
  any_literals (binary o a b) = (any_literals a, any_literals b)
  any_literals (product ts) = any_trees ts
  any_literals (cond_of p a b) = (any_literals p, any_literals a, any_literals b)
  any_literals (case_of gs) = any_arms gs
  any_literals (case_other gs e) = (any_arms gs, any_literals e)
  any_literals (let_in ds e) = (any_named ds, any_literals e)
  any_literals (quantified q bs p) = (any_bound bs, any_literals p)
  any_literals (choose x r p) = (any_literals r, any_literals p)
  any_literals (tuple ts) = any_trees ts
  any_literals (set_of ts) = any_trees ts
  any_literals (filter_of x r p) = (any_literals r, any_literals p)
  any_literals (image e x r) = (any_literals e, any_literals r)
  any_literals (fun_of bs e) = (any_bound bs, any_literals e)
  any_literals (fun_set a b) = (any_literals a, any_literals b)
  any_literals (record_of ds) = any_named ds
  any_literals (record_set ds) = any_named ds
  any_literals (except f us) = (any_literals f, any_paths us)
  any_literals (index f ts) = (any_literals f, any_trees ts)
  any_literals (field r x) = (refl, any_literals r)
  any_literals (call x ts) = any_trees ts
  any_literals (unchanged xs) = tt

  any_trees : (ts : Trees) → TreesWithin unlimited ts
  any_trees no_trees = tt
  any_trees (more_trees t ts) = (any_literals t, any_trees ts)

  any_named : (ts : NamedTrees) → NamedTreesWithin unlimited ts
  any_named no_named = tt
  any_named (more_named x t ds) = (refl, any_literals t, any_named ds)

  any_arms : (ts : TreePairs) → ArmsWithin unlimited ts
  any_arms no_arms = tt
  any_arms (more_arms g e gs) = (any_literals g, any_literals e, any_arms gs)

  any_bound : (ts : BoundTrees) → BoundWithin unlimited ts
  any_bound no_bound = tt
  any_bound (more_bound xs r bs) = (any_literals r, any_bound bs)

  any_paths : (ts : PathTrees) → PathsWithin unlimited ts
  any_paths no_paths = tt
  any_paths (more_paths ps e us) = (any_trees ps, any_literals e, any_paths us)
