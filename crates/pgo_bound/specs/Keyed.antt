-- The keys and the depth of a function that is made of pairs.
use Rattle.std.proofs.Common.{◌≡◌, ℕ, suc, ◌≤◌, List, [], ◌∷◌, map, Some, refl, ap, ◌∙◌, subst, inl, inr, arith}
use Rattle.std.specs.declared.cmp.Ordering.{Ordering}
use Rattle.std.specs.declared.cmp.Ordering.TheVariants.{Less, Equal, Greater}
use Rattle.std.specs.Ordering.{match_ordering}
use Rattle.pgo_base.specs.Data.{Data, pairs, keys, graph-pairs}
use Rattle.pgo_base.specs.Order.{data_cmp}
use Rattle.pgo_base.specs.Exact.{data_exact}
use Rattle.pgo_base.specs.Sets.{insert_member, in_order}
use Rattle.pgo_base.specs.Pairs.{insert_pair, pairs_in_order}
use Rattle.pgo_base.specs.Size.{depth, graph_size}
use Rattle.pgo_base.specs.Falls.{pairs_depth-pairs}
use Rattle.pgo_model.specs.Variables.{IsFunctionOn}
use Rattle.pgo_bound.specs.BoundOf.{function_on, function_at}
use Rattle.pgo_bound.specs.Among.{IsAmong}

keys_insert : (p : Data × Data) (qs : List (Data × Data)) → keys (insert_pair p qs) ≡ insert_member p.0 (keys qs)
keys_insert p [] = refl
keys_insert p (q ∷ qs) = go (data_cmp p.0 q.0) refl (keys_insert p qs)
  where
    go : (o : Ordering) → data_cmp p.0 q.0 ≡ o → keys (insert_pair p qs) ≡ insert_member p.0 (keys qs)
        → keys (match_ordering o (p ∷ q ∷ qs) (p ∷ qs) (q ∷ insert_pair p qs)) ≡ match_ordering o (p.0 ∷ q.0 ∷ keys qs) (q.0 ∷ keys qs) (q.0 ∷ insert_member p.0 (keys qs))
    go Less e r = refl
    go Equal e r = ap (λ k. k ∷ keys qs) (data_exact p.0 q.0 e)
    go Greater e r = ap (λ ks. q.0 ∷ ks) r

-- the keys of pairs in order are the keys in order
pub keys_ordered : (ps : List (Data × Data)) → keys (pairs_in_order ps) ≡ in_order (keys ps)
keys_ordered [] = refl
keys_ordered (p ∷ ps) = keys_insert p (pairs_in_order ps) ∙ ap (insert_member p.0) (keys_ordered ps)

-- a function that is made of pairs is one on their keys
pub on_keys : (ps : List (Data × Data)) → IsFunctionOn (in_order (keys ps)) (Some (function_on ps))
on_keys ps = (pairs (pairs_in_order ps), refl, ap keys (graph-pairs (pairs_in_order ps)) ∙ keys_ordered ps)

keys_at : (f : Data → Data) (ids : List Data) → keys (map (λ id. (id, f id)) ids) ≡ ids
keys_at f [] = refl
keys_at f (d ∷ ds) = ap (λ ks. d ∷ ks) (keys_at f ds)

-- a function that is made for identifiers is one on them
pub at_keys : (f : Data → Data) (ids : List Data) → IsFunctionOn (in_order ids) (Some (function_at f ids))
at_keys f ids = subst (λ ks. IsFunctionOn (in_order ks) (Some (function_at f ids))) (keys_at f ids) (on_keys (map (λ id. (id, f id)) ids))

size_insert : (p : Data × Data) (qs : List (Data × Data)) → graph_size (insert_pair p qs) ≤ graph_size (p ∷ qs)
size_insert p [] = omega arith
size_insert p (q ∷ qs) = go (data_cmp p.0 q.0) (size_insert p qs)
  where
    go : (o : Ordering) → graph_size (insert_pair p qs) ≤ graph_size (p ∷ qs) → graph_size (match_ordering o (p ∷ q ∷ qs) (p ∷ qs) (q ∷ insert_pair p qs)) ≤ graph_size (p ∷ q ∷ qs)
    go Less r = omega arith
    go Equal r = omega arith
    go Greater r = omega (arith, r)

size_ordered : (ps : List (Data × Data)) → graph_size (pairs_in_order ps) ≤ graph_size ps
size_ordered [] = omega arith
size_ordered (p ∷ ps) = omega (arith, size_insert p (pairs_in_order ps), size_ordered ps)

size_low : (n : ℕ) (ps : List (Data × Data)) → ((p : Data × Data) → IsAmong p ps → (depth p.0 ≤ n) × (depth p.1 ≤ n)) → graph_size ps ≤ n
size_low n [] f = omega arith
size_low n (p ∷ ps) f = let a = f p (inl refl) in omega (arith, a.0, a.1, size_low n ps (λ q h. f q (inr h)))

-- a function is one deeper than its keys and values may be
pub depth_on : (n : ℕ) (ps : List (Data × Data)) → ((p : Data × Data) → IsAmong p ps → (depth p.0 ≤ n) × (depth p.1 ≤ n)) → depth (function_on ps) ≤ suc n
depth_on n ps f = omega (arith, pairs_depth-pairs (pairs_in_order ps), size_ordered ps, size_low n ps f)
