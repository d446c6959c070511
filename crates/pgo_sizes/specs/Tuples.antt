-- The index of `f[a, b]`, which is a tuple with a node of its own.
use Rattle.std.specs.Prelude.{ℕ, Bool, true, false, if◌then◌else◌}
use Rattle.pgo_base.specs.Tree.{Tree, index, Trees, no_trees, more_trees}

abbrev pub are_several : Trees → Bool
are_several no_trees = true
are_several (more_trees t no_trees) = false
are_several (more_trees t (more_trees u us)) = true

abbrev pub has_tuple : Tree → Bool
has_tuple (index f ts) = are_several ts
has_tuple _ = false

-- the nodes of an expression besides those of its operands
abbrev pub own_nodes : Tree → ℕ
own_nodes t = if has_tuple t then 2 else 1
