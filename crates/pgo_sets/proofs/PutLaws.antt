-- What EXCEPT makes of a function with another part at a path, by the place of the first index.
use Rattle.std.proofs.Common.{◌≡◌, ℕ, List, [], ◌∷◌, refl, ap, sym, ◌∙◌}
use Rattle.std.specs.Prelude.{Option, Some, None, option_map, option_and_then}
use Rattle.pgo_base.specs.Data.{Data, function, pairs, graph-pairs}
use Rattle.pgo_model.specs.Operators.{lookup, replace_at, function_of, put_at}
use Rattle.pgo_sets.specs.KeyPlace.{key_place, value_in, set_value}
use Rattle.pgo_sets.proofs.KeyPlaces.{at_place, no_place}

-- a part that isn't there
part_none : (is : List Data) (v : Data) → put_at is (λ part. Some v) None ≡ Some v
part_none [] v = refl
part_none (i ∷ is) v = refl

-- the function f with this graph, where the value at the first index is this one
abbrev by_part : Data → List Data → Data → Data → List (Data × Data) → Option Data → Option Data
by_part i is v f ps l =
    elim l as (λ o. Option Data) [ None ↦ option_map (λ w. f) (put_at is (λ part. Some v) None) | Some part ↦ option_and_then (λ w. function_of (replace_at i w ps)) (put_at is (λ part. Some v) (Some part)) ]

-- where the first index isn't in the domain
pub put_absent : (i : Data) (is : List Data) (v : Data) (ps : List (Data × Data)) → None ≡ key_place i ps → Some (function (pairs ps)) ≡ put_at (i ∷ is) (λ part. Some v) (Some (function (pairs ps)))
put_absent i is v ps h =
    let f = function (pairs ps) in
    sym (
    ap (λ qs. by_part i is v f qs (lookup i qs)) (graph-pairs ps)
    ∙ ap (by_part i is v f ps) (no_place i ps (sym h))
    ∙ ap (option_map (λ w. f)) (part_none is v)
    )

-- where it is, and this is the part there
pub put_present : (i : Data) (is : List Data) (v part : Data) (ps : List (Data × Data)) (n : ℕ) (o : Option Data) → Some n ≡ key_place i ps → Some part ≡ value_in n ps → o ≡ put_at is (λ part. Some v) (Some part) → option_and_then (λ w. function_of (set_value n w ps)) o ≡ put_at (i ∷ is) (λ part. Some v) (Some (function (pairs ps)))
put_present i is v part ps n o h e k =
    let f = function (pairs ps) in
    let r = at_place i ps n (sym h) in
    ap (option_and_then (λ w. function_of (set_value n w ps))) k
    ∙ (λ j. option_and_then (λ w. function_of (sym (r.2 w) j)) (put_at is (λ part. Some v) (Some part)))
    ∙ sym (
    ap (λ qs. by_part i is v f qs (lookup i qs)) (graph-pairs ps)
    ∙ ap (by_part i is v f ps) (r.1 ∙ sym e)
    )
