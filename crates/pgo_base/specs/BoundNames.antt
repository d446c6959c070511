-- The names that an expression binds for its parts.
use Rattle.std.specs.Prelude.{List, [], ◌∷◌, ◌++◌}
use Rattle.pgo_base.specs.Lookup.{Name}
use Rattle.pgo_base.specs.Tree.{Tree, let_in, quantified, choose, filter_of, image, fun_of, NamedTrees, no_named, more_named, BoundTrees, no_bound, more_bound}

-- the names that a LET defines
abbrev pub let_names : NamedTrees → List Name
let_names no_named = []
let_names (more_named x t ds) = x ∷ let_names ds

-- the names that binders bind
abbrev pub binder_names : BoundTrees → List Name
binder_names no_bound = []
binder_names (more_bound xs r bs) = xs ++ binder_names bs

-- the names that an expression binds, in the order of the text
abbrev pub bound_by : Tree → List Name
bound_by (let_in ds e) = let_names ds
bound_by (quantified q bs p) = binder_names bs
bound_by (choose x r p) = x ∷ []
bound_by (filter_of x r p) = x ∷ []
bound_by (image e x r) = x ∷ []
bound_by (fun_of bs e) = binder_names bs
bound_by _ = []
