-- What a graph is with another value at a place.
use Rattle.std.proofs.Common.{◌≡◌, ℕ, zero, suc, max, min, ◌<◌, ◌≤◌, List, [], ◌∷◌, ◌++◌, length, map, get_or, set, refl, ap, arith}
use Rattle.std.specs.Prelude.{Some}
use Rattle.pgo_base.specs.declared.value.Value.{Value}
use Rattle.pgo_base.specs.Data.{Data, keys}
use Rattle.pgo_base.specs.Bound.{IsBound}
use Rattle.pgo_base.specs.Size.{depth, graph_size}
use Rattle.pgo_base.specs.ValuePlace.{value_in, set_value}
use Rattle.pgo_base.specs.View.{data_of, pair_of}

-- another value leaves the keys as they are
pub keys_set : (n : ℕ) (v : Data) (ps : List (Data × Data)) → keys (set_value n v ps) ≡ keys ps
keys_set n v [] = refl
keys_set zero v (p ∷ ps) = refl
keys_set (suc n) v (p ∷ ps) = ap (λ ks. p.0 ∷ ks) (keys_set n v ps)

-- it makes the graph no deeper than the value is
pub size_set : (n : ℕ) (v : Data) (ps : List (Data × Data)) → graph_size (set_value n v ps) ≤ max (graph_size ps) (depth v)
size_set n v [] = omega arith
size_set zero v (p ∷ ps) = omega arith
size_set (suc n) v (p ∷ ps) = omega (arith, size_set n v ps)

-- the value at a place as it lies in memory
pub value_there : (ps : List (Value × Value)) (n : ℕ) (q : Value × Value) → n < length ps → q ≡ get_or ps n q → Some (data_of q.1) ≡ value_in n (map pair_of ps)
value_there [] n q h e = absurd (omega arith)
value_there (p ∷ ps) zero q h e = ap (λ (r : Value × Value). Some (data_of r.1)) e
value_there (p ∷ ps) (suc n) q h e = value_there ps n q (omega arith) e

pub value_set : (ps : List (Value × Value)) (n : ℕ) (q : Value × Value) (v : Value) → n < length ps → q ≡ get_or ps n q → map pair_of (set ps n (q.0, v)) ≡ set_value n (data_of v) (map pair_of ps)
value_set [] n q v h e = absurd (omega arith)
value_set (p ∷ ps) zero q v h e = ap (λ (r : Value × Value). (data_of r.0, data_of v) ∷ map pair_of ps) e
value_set (p ∷ ps) (suc n) q v h e = ap (λ qs. pair_of p ∷ qs) (value_set ps n q v (omega arith) e)

-- a bound of the graph, and of what the value makes of it
pub bound_set : (b a n : ℕ) (v : Data) (ps : List (Data × Data)) → IsBound b (suc (graph_size ps)) → IsBound a (depth v) → IsBound (max b (min (suc a) 4294967295)) (suc (graph_size (set_value n v ps)))
bound_set b a n v ps h k = omega (arith, h, k, size_set n v ps)

-- a pair behind the others makes the graph no deeper than it is
pub size_behind : (k v : Data) (ps : List (Data × Data)) → graph_size (ps ++ (k, v) ∷ []) ≤ max (graph_size ps) (max (depth k) (depth v))
size_behind k v [] = omega arith
size_behind k v (p ∷ ps) = omega (arith, size_behind k v ps)

-- a bound of the graph, and of what a pair behind the others makes of it
pub bound_behind : (b k v : ℕ) (key value : Data) (ps : List (Data × Data)) → IsBound b (suc (graph_size ps)) → IsBound k (depth key) → IsBound v (depth value) → IsBound (max b (min (suc (max k v)) 4294967295)) (suc (graph_size (ps ++ (key, value) ∷ [])))
bound_behind b k v key value ps h i j = omega (arith, h, i, j, size_behind key value ps)
