-- Forms of expressions, by what their values are made of.
use Rattle.std.specs.Prelude.{Bool, true, false}
use Rattle.pgo_base.specs.Tree as trees

-- a set of tuples, functions or records
abbrev pub is_unbuilt : trees.Tree → Bool
is_unbuilt (trees.product ts) = true
is_unbuilt (trees.fun_set a b) = true
is_unbuilt (trees.record_set ds) = true
is_unbuilt _ = false

-- an expression that binds names, or EXCEPT
abbrev pub is_made : trees.Tree → Bool
is_made (trees.let_in ds e) = true
is_made (trees.quantified q bs p) = true
is_made (trees.choose x r p) = true
is_made (trees.filter_of x r p) = true
is_made (trees.image e x r) = true
is_made (trees.fun_of bs e) = true
is_made (trees.except f us) = true
is_made _ = false

-- an expression that is one of its parts, or is built from their values
abbrev pub is_of_parts : trees.Tree → Bool
is_of_parts (trees.cond_of p a b) = true
is_of_parts (trees.case_of gs) = true
is_of_parts (trees.case_other gs e) = true
is_of_parts (trees.tuple ts) = true
is_of_parts (trees.set_of ts) = true
is_of_parts (trees.record_of ds) = true
is_of_parts (trees.index f ts) = true
is_of_parts (trees.field r x) = true
is_of_parts (trees.call x ts) = true
is_of_parts _ = false
