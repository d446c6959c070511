-- The part of a function at a path.
use Rattle.std.specs.Prelude.{List, [], ◌∷◌, Option, Some, None, option_and_then}
use Rattle.pgo_base.specs.Data.{Data}
use Rattle.pgo_model.specs.Operators.{graph_of, lookup}

-- what is at a path: none where there is no function on the way, and none inside where an index is not in a domain
abbrev pub part_on : List Data → Data → Option (Option Data)
part_on [] f = Some (Some f)
part_on (i ∷ is) f = option_and_then (λ ps. elim (lookup i ps) as (λ o. Option (Option Data)) [ None ↦ Some None | Some part ↦ part_on is part ]) (graph_of f)
