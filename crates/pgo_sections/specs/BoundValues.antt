-- Values that sections and their expansions bind and put back.
use Rattle.std.specs.Prelude.{Bool, true, false, [], ◌∷◌, Option, option_map, option_and_then}
use Rattle.pgo_base.specs.Data.{Data}
use Rattle.pgo_base.specs.Lookup.{Name, Names, find}
use Rattle.pgo_model.specs.Operators.{except, set_from}

-- a value that is bound: none where it makes no set by itself, as the module's `\E x \in {e}` asks; so a value of the greatest
-- depth is not bound
abbrev pub bindable : Option Data → Option Data
bindable o = option_and_then (λ v. option_map (λ x. v) (set_from (v ∷ []))) o

-- what a name in scope stands for
abbrev pub value_under : Name → Names → Option Data
value_under x names = option_and_then (λ o. o) (find x names)

-- [f EXCEPT ![id] = v]
abbrev pub put_part : Data → Option Data → Option Data → Option Data
put_part id f v = option_and_then (λ w. option_and_then (λ g. except g id w) f) v

-- what a variable becomes where its new value, or else its new value at the identifier, is v
abbrev pub value_put : Bool → Data → Option Data → Option Data → Option Data
value_put true id f v = v
value_put false id f v = put_part id f v
