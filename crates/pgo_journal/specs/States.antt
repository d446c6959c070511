-- A state with changes put in. Where a changed component isn't in the state, it stays as it is.
use Rattle.std.specs.Prelude.{List, [], ◌∷◌, Option, Some, None}
use Rattle.pgo_base.specs.Data.{Data, function, pairs, graph}
use Rattle.pgo_base.specs.Lookup.{Vars, find}
use Rattle.pgo_model.specs.Log.{Change}
use Rattle.pgo_model.specs.Operators.{replace_at}
use Rattle.pgo_model.specs.Variables.{store}

-- what a value becomes where it, or its part at an index, becomes v
abbrev pub with_new : Option Data → Data → Data → Data
with_new None v old = v
with_new (Some i) v (function ps) = function (pairs (replace_at i v (graph ps)))
with_new (Some i) v old = old

abbrev pub put_found : Change → Vars → Option Data → Vars
put_found c s None = s
put_found c s (Some old) = store c.component.variable (with_new c.component.index c.value old) s

-- one change put in
abbrev pub put : Change → Vars → Vars
put c s = put_found c s (find c.component.variable s)

-- changes put in one after another
abbrev pub put_all : List Change → Vars → Vars
put_all [] s = s
put_all (c ∷ cs) s = put_all cs (put c s)
