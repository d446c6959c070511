-- An expression with other operands. They are taken one after another in the order of the text, as far as the form needs them; `@`
-- stands where there are too few.
use Rattle.std.specs.Prelude.{Bool, true, false, if◌then◌else◌, List, [], ◌∷◌}
use Rattle.pgo_base.specs.Lookup.{Name}
use Rattle.pgo_base.specs.Tree.{Tree, at, unary, binary, product, cond_of, case_of, case_other, let_in, quantified, choose, tuple, set_of, filter_of, image, fun_of, fun_set, record_of, record_set, except, index, field, call, Trees, no_trees, more_trees, NamedTrees, no_named, more_named, TreePairs, no_arms, more_arms, BoundTrees, no_bound, more_bound, PathTrees, no_paths, more_paths, trees, named, arms, bound, paths}

abbrev pub next : List Tree → Tree
next [] = at
next (t ∷ ts) = t

abbrev pub behind : List Tree → List Tree
behind [] = []
behind (t ∷ ts) = ts

-- as many as there are, and what is left behind so many
abbrev pub fill_trees : Trees → List Tree → List Tree
fill_trees no_trees ps = []
fill_trees (more_trees t ts) ps = next ps ∷ fill_trees ts (behind ps)

abbrev pub behind_trees : Trees → List Tree → List Tree
behind_trees no_trees ps = ps
behind_trees (more_trees t ts) ps = behind_trees ts (behind ps)

abbrev pub fill_named : NamedTrees → List Tree → List (Name × Tree)
fill_named no_named ps = []
fill_named (more_named x t ds) ps = (x, next ps) ∷ fill_named ds (behind ps)

abbrev pub behind_named : NamedTrees → List Tree → List Tree
behind_named no_named ps = ps
behind_named (more_named x t ds) ps = behind_named ds (behind ps)

abbrev pub fill_arms : TreePairs → List Tree → List (Tree × Tree)
fill_arms no_arms ps = []
fill_arms (more_arms g e gs) ps = (next ps, next (behind ps)) ∷ fill_arms gs (behind (behind ps))

abbrev pub behind_arms : TreePairs → List Tree → List Tree
behind_arms no_arms ps = ps
behind_arms (more_arms g e gs) ps = behind_arms gs (behind (behind ps))

abbrev pub fill_bound : BoundTrees → List Tree → List (List Name × Tree)
fill_bound no_bound ps = []
fill_bound (more_bound xs r bs) ps = (xs, next ps) ∷ fill_bound bs (behind ps)

abbrev pub behind_bound : BoundTrees → List Tree → List Tree
behind_bound no_bound ps = ps
behind_bound (more_bound xs r bs) ps = behind_bound bs (behind ps)

abbrev pub fill_paths : PathTrees → List Tree → List (List Tree × Tree)
fill_paths no_paths ps = []
fill_paths (more_paths ts e us) ps = (fill_trees ts ps, next (behind_trees ts ps)) ∷ fill_paths us (behind (behind_trees ts ps))

abbrev pub behind_paths : PathTrees → List Tree → List Tree
behind_paths no_paths ps = ps
behind_paths (more_paths ts e us) ps = behind_paths us (behind (behind_trees ts ps))

-- a form without a list; another stays as it is
abbrev pub rebuilt_fixed : Tree → List Tree → Tree
rebuilt_fixed (unary o a) ps = unary o (next ps)
rebuilt_fixed (binary o a b) ps = binary o (next ps) (next (behind ps))
rebuilt_fixed (cond_of p a b) ps = cond_of (next ps) (next (behind ps)) (next (behind (behind ps)))
rebuilt_fixed (choose x r p) ps = choose x (next ps) (next (behind ps))
rebuilt_fixed (filter_of x r p) ps = filter_of x (next ps) (next (behind ps))
rebuilt_fixed (image e x r) ps = image (next ps) x (next (behind ps))
rebuilt_fixed (fun_set a b) ps = fun_set (next ps) (next (behind ps))
rebuilt_fixed (field r x) ps = field (next ps) x
rebuilt_fixed t ps = t

-- a form with a list; another stays as it is
abbrev pub rebuilt_listed : Tree → List Tree → Tree
rebuilt_listed (product ts) ps = product (trees ps)
rebuilt_listed (case_of gs) ps = case_of (arms (fill_arms gs ps))
rebuilt_listed (case_other gs e) ps = case_other (arms (fill_arms gs ps)) (next (behind_arms gs ps))
rebuilt_listed (let_in ds e) ps = let_in (named (fill_named ds ps)) (next (behind_named ds ps))
rebuilt_listed (quantified q bs p) ps = quantified q (bound (fill_bound bs ps)) (next (behind_bound bs ps))
rebuilt_listed (tuple ts) ps = tuple (trees ps)
rebuilt_listed (set_of ts) ps = set_of (trees ps)
rebuilt_listed (fun_of bs e) ps = fun_of (bound (fill_bound bs ps)) (next (behind_bound bs ps))
rebuilt_listed (record_of ds) ps = record_of (named (fill_named ds ps))
rebuilt_listed (record_set ds) ps = record_set (named (fill_named ds ps))
rebuilt_listed (except f us) ps = except (next ps) (paths (fill_paths us (behind ps)))
rebuilt_listed (index f ts) ps = index (next ps) (trees (behind ps))
rebuilt_listed (call x ts) ps = call x (trees ps)
rebuilt_listed t ps = t

-- whether a form has a list
abbrev pub has_list : Tree → Bool
has_list (product ts) = true
has_list (case_of gs) = true
has_list (case_other gs e) = true
has_list (let_in ds e) = true
has_list (quantified q bs p) = true
has_list (tuple ts) = true
has_list (set_of ts) = true
has_list (fun_of bs e) = true
has_list (record_of ds) = true
has_list (record_set ds) = true
has_list (except f us) = true
has_list (index f ts) = true
has_list (call x ts) = true
has_list t = false

abbrev pub rebuilt : Tree → List Tree → Tree
rebuilt t ps = if has_list t then rebuilt_listed t ps else rebuilt_fixed t ps
