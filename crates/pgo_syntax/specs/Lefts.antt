-- Left sides as expressions spell them.
use Rattle.std.specs.Prelude.{Option, Some, None}
use Rattle.pgo_base.specs.Tree.{Tree, Trees, no_trees, more_trees}

-- the one index, where there is one alone
abbrev pub only : Trees → Option Tree
only no_trees = None
only (more_trees t no_trees) = Some t
only (more_trees t (more_trees u us)) = None
