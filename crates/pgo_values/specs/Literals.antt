-- The literals of expressions and of definitions are within limits: integers, strings and names of fields that the limits allow.
use Rattle.std.specs.Prelude.{IsTrue}
use Rattle.pgo_base.specs.Tree.{Tree, name, primed, number, text, truth, at, word, unary, binary, product, cond_of, case_of, case_other, let_in, quantified, choose, tuple, set_of, filter_of, image, fun_of, fun_set, record_of, record_set, except, index, field, call, unchanged, Trees, no_trees, more_trees, NamedTrees, no_named, more_named, TreePairs, no_arms, more_arms, BoundTrees, no_bound, more_bound, PathTrees, no_paths, more_paths}
use Rattle.pgo_model.specs.Val.{Defined, Given, Means}
use Rattle.pgo_values.specs.Limits.{Limits}
use Rattle.pgo_values.specs.Within.{IsWithin}

module _ (limits : Limits) where
  abbrev mutual
    pub LiteralsWithin : Tree → Type 0
    LiteralsWithin (name x) = Unit {0}
    LiteralsWithin (primed x) = Unit {0}
    LiteralsWithin (number z) = IsTrue (limits.number z)
    LiteralsWithin (text t) = IsTrue (limits.text t)
    LiteralsWithin (truth b) = Unit {0}
    LiteralsWithin at = Unit {0}
    LiteralsWithin (word w) = Unit {0}
    LiteralsWithin (unary o a) = LiteralsWithin a
    LiteralsWithin (binary o a b) = LiteralsWithin a × LiteralsWithin b
    LiteralsWithin (product ts) = TreesWithin ts
    LiteralsWithin (cond_of p a b) = LiteralsWithin p × LiteralsWithin a × LiteralsWithin b
    LiteralsWithin (case_of gs) = ArmsWithin gs
    LiteralsWithin (case_other gs e) = ArmsWithin gs × LiteralsWithin e
    LiteralsWithin (let_in ds e) = NamedTreesWithin ds × LiteralsWithin e
    LiteralsWithin (quantified q bs p) = BoundWithin bs × LiteralsWithin p
    LiteralsWithin (choose x r p) = LiteralsWithin r × LiteralsWithin p
    LiteralsWithin (tuple ts) = TreesWithin ts
    LiteralsWithin (set_of ts) = TreesWithin ts
    LiteralsWithin (filter_of x r p) = LiteralsWithin r × LiteralsWithin p
    LiteralsWithin (image e x r) = LiteralsWithin e × LiteralsWithin r
    LiteralsWithin (fun_of bs e) = BoundWithin bs × LiteralsWithin e
    LiteralsWithin (fun_set a b) = LiteralsWithin a × LiteralsWithin b
    LiteralsWithin (record_of ds) = NamedTreesWithin ds
    LiteralsWithin (record_set ds) = NamedTreesWithin ds
    LiteralsWithin (except f us) = LiteralsWithin f × PathsWithin us
    LiteralsWithin (index f ts) = LiteralsWithin f × TreesWithin ts
    LiteralsWithin (field r x) = IsTrue (limits.text x) × LiteralsWithin r
    LiteralsWithin (call x ts) = TreesWithin ts
    LiteralsWithin (unchanged xs) = Unit {0}

    pub TreesWithin : Trees → Type 0
    TreesWithin no_trees = Unit {0}
    TreesWithin (more_trees t ts) = LiteralsWithin t × TreesWithin ts

    pub NamedTreesWithin : NamedTrees → Type 0
    NamedTreesWithin no_named = Unit {0}
    NamedTreesWithin (more_named x t ds) = IsTrue (limits.text x) × LiteralsWithin t × NamedTreesWithin ds

    pub ArmsWithin : TreePairs → Type 0
    ArmsWithin no_arms = Unit {0}
    ArmsWithin (more_arms g e gs) = LiteralsWithin g × LiteralsWithin e × ArmsWithin gs

    pub BoundWithin : BoundTrees → Type 0
    BoundWithin no_bound = Unit {0}
    BoundWithin (more_bound xs r bs) = LiteralsWithin r × BoundWithin bs

    pub PathsWithin : PathTrees → Type 0
    PathsWithin no_paths = Unit {0}
    PathsWithin (more_paths ps e us) = TreesWithin ps × LiteralsWithin e × PathsWithin us

  -- a constant is within the limits, and so are the literals in a definition's body
  abbrev pub DefinedWithin : Defined → Type 0
  DefinedWithin (Given x v) = IsWithin limits v
  DefinedWithin (Means x ps e) = LiteralsWithin e
