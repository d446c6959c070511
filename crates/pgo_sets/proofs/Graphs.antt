-- The operators on functions, by their pairs.
use Rattle.std.proofs.Common.{◌≡◌, false, List, ◌++◌, [], ◌∷◌, map, is_none, Option, Some, None, option_map, refl, ap, sym, ◌∙◌}
use Rattle.pgo_base.specs.Data.{Data, function, pairs, graph-pairs, keys}
use Rattle.pgo_base.specs.Sets.{IsSorted}
use Rattle.pgo_model.specs.Operators.{set_from, function_from, function_of, first_of, domain, merge, except, lookup, replace_at}
use Rattle.pgo_sets.specs.Replaced.{with_value, with_value_where}
use Rattle.pgo_sets.proofs.Ordered.{pairs_stay}

keys_first : (ps : List (Data × Data)) → map first_of ps ≡ keys ps
keys_first [] = refl
keys_first (p ∷ ps) = ap (λ ks. p.0 ∷ ks) (keys_first ps)

pub domain_is : (ps : List (Data × Data)) → domain (function (pairs ps)) ≡ set_from (keys ps)
domain_is ps = ap (λ qs. set_from (map first_of qs)) (graph-pairs ps) ∙ ap set_from (keys_first ps)

pub merge_is : (ps qs : List (Data × Data)) → merge (function (pairs ps)) (function (pairs qs)) ≡ function_from (ps ++ qs)
merge_is ps qs = λ i. function_from (graph-pairs ps i ++ graph-pairs qs i)

pub except_is : (ps : List (Data × Data)) (k v : Data) → except (function (pairs ps)) k v ≡ with_value k v ps
except_is ps k v = ap (λ qs. elim (lookup k qs) as (λ o. Option Data) [ None ↦ Some (function (pairs ps)) | Some part ↦ function_of (replace_at k v qs) ]) (graph-pairs ps) ∙ go (lookup k ps)
  where
    go : (o : Option Data) → elim o as (λ o. Option Data) [ None ↦ Some (function (pairs ps)) | Some part ↦ function_of (replace_at k v ps) ] ≡ with_value_where k v ps o
    go None = refl
    go (Some old) = refl

pub with_value_there : {A : Type 0} (r : Option A) (f : A → Data) (k v : Data) (ps : List (Data × Data)) → is_none r ≡ false → option_map f r ≡ lookup k ps → with_value k v ps ≡ function_of (replace_at k v ps)
with_value_there None f k v ps h e = absurd (cc)
with_value_there (Some a) f k v ps h e = ap (with_value_where k v ps) (sym e)

pub function_sorted : (ps : List (Data × Data)) → IsSorted (keys ps) → function_from ps ≡ function_of ps
function_sorted ps s = ap function_of (pairs_stay ps s)
