-- Whether a name stands in an expression.
use Rattle.std.specs.Prelude.{Bool, List, [], ◌∷◌}
use Rattle.std.specs.List.{list_any}
use Rattle.pgo_base.specs.Lookup.{Name, same_name}
use Rattle.pgo_base.specs.Tree.{Tree, name}
use Rattle.pgo_model.specs.Occurrences.{names_in}

-- the name that an expression itself is
abbrev pub own_name : Tree → List Name
own_name (name x) = x ∷ []
own_name _ = []

abbrev pub is_name : Name → Tree → Bool
is_name n t = list_any (same_name n) (own_name t)

abbrev pub mentions : Name → Tree → Bool
mentions n e = list_any (same_name n) (names_in e)
