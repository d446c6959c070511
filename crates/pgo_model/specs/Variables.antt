-- States by their variables.
use Rattle.std.specs.Prelude.{◌≡◌, if◌then◌else◌, List, [], ◌∷◌, Option, Some, None}
use Rattle.pgo_base.specs.Data.{Data, function, Pairs, graph, keys}
use Rattle.pgo_base.specs.Lookup.{Name, Vars, same_name, find}
use Rattle.pgo_model.specs.Operators.{apply}
use Rattle.pgo_model.specs.Written.{pc}

-- where the instance with this identifier stands
abbrev pub place_of : Data → Vars → Option Data
place_of id s = elim (find pc s) as (λ o. Option Data) [ None ↦ None | Some f ↦ apply f id ]

-- the variable becomes v
abbrev pub store : Name → Data → Vars → Vars
store x v [] = []
store x v (p ∷ s) = if same_name x p.0 then (p.0, v) ∷ s else p ∷ store x v s

abbrev pub store_value : Name → Option Data → Vars → Vars
store_value x None s = s
store_value x (Some v) s = store x v s

-- a function with this domain
abbrev pub IsFunctionOn : List Data → Option Data → Type 0
IsFunctionOn ids o = (ps : Pairs) × (o ≡ Some (function ps)) × (keys (graph ps) ≡ ids)

-- the variable is a function in both states, on one domain
abbrev pub HasOneDomain : Vars → Vars → Name → Type 0
HasOneDomain s t x = (ids : List Data) × IsFunctionOn ids (find x s) × IsFunctionOn ids (find x t)
