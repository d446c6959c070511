-- What a function that is made of pairs has at a key.
use Rattle.std.proofs.Common.{◌≡◌, Bool, true, false, if◌then◌else◌, List, [], ◌∷◌, map, Some, refl, ap, sym, ◌∙◌, inl, inr}
use Rattle.std.specs.declared.cmp.Ordering.{Ordering}
use Rattle.std.specs.declared.cmp.Ordering.TheVariants.{Less, Equal, Greater}
use Rattle.std.specs.Ordering.{is_eq, match_ordering}
use Rattle.pgo_base.proofs.Keyed.{pairs_back}
use Rattle.pgo_base.specs.Data.{Data, Items, no_items, item, items, members, boolean, integer, string, model, set, function, graph-pairs}
use Rattle.pgo_base.specs.View.{data_of}
use Rattle.pgo_base.specs.ValueCode.{value_from}
use Rattle.pgo_base.specs.Order.{data_cmp}
use Rattle.pgo_base.specs.Exact.{data_exact, data_itself}
use Rattle.pgo_base.specs.Pairs.{insert_pair, pairs_in_order}
use Rattle.pgo_model.specs.Operators.{same_data, lookup, apply}
use Rattle.pgo_bound.specs.BoundOf.{function_on, function_at}
use Rattle.pgo_bound.specs.Among.{IsAmong}

pub same_of : (x y : Data) → same_data x y ≡ true → x ≡ y
same_of x y h = go (data_cmp x y) refl h
  where
    go : (o : Ordering) → data_cmp x y ≡ o → is_eq o ≡ true → x ≡ y
    go Less e g = absurd (cc)
    go Equal e g = data_exact x y e
    go Greater e g = absurd (cc)

pub same_itself : (x : Data) → same_data x x ≡ true
same_itself x = ap is_eq (data_itself x)

pub same_equal : (x y : Data) → x ≡ y → same_data x y ≡ true
same_equal x y e = ap (same_data x) (sym e) ∙ same_itself x

lookup_insert : (k : Data) (p : Data × Data) (qs : List (Data × Data)) → lookup k (insert_pair p qs) ≡ lookup k (p ∷ qs)
lookup_insert k p [] = refl
lookup_insert k p (q ∷ qs) = go (data_cmp p.0 q.0) refl (lookup_insert k p qs)
  where
    apart : (b c : Bool) → same_data k p.0 ≡ b → same_data k q.0 ≡ c → data_cmp p.0 q.0 ≡ Greater → (if c then Some q.1 else (if b then Some p.1 else lookup k qs)) ≡ (if b then Some p.1 else (if c then Some q.1 else lookup k qs))
    apart true true e f g = absurd (let same : p.0 ≡ q.0 = sym (same_of k p.0 e) ∙ same_of k q.0 f in let i : data_cmp p.0 q.0 ≡ Equal = ap (data_cmp p.0) (sym same) ∙ data_itself p.0 in cc)
    apart true false e f g = refl
    apart false true e f g = refl
    apart false false e f g = refl

    over : (b c : Bool) → same_data k p.0 ≡ b → same_data k q.0 ≡ c → data_cmp p.0 q.0 ≡ Equal → (if b then Some p.1 else lookup k qs) ≡ (if b then Some p.1 else (if c then Some q.1 else lookup k qs))
    over true c e f g = refl
    over false true e f g = absurd (let same : p.0 ≡ q.0 = data_exact p.0 q.0 g in let i : same_data k p.0 ≡ true = ap (same_data k) same ∙ f in cc)
    over false false e f g = refl

    go : (o : Ordering) → data_cmp p.0 q.0 ≡ o → lookup k (insert_pair p qs) ≡ lookup k (p ∷ qs) → lookup k (match_ordering o (p ∷ q ∷ qs) (p ∷ qs) (q ∷ insert_pair p qs)) ≡ lookup k (p ∷ q ∷ qs)
    go Less e h = refl
    go Equal e h = over (same_data k p.0) (same_data k q.0) refl refl e
    go Greater e h = ap (λ r. if same_data k q.0 then Some q.1 else r) h ∙ apart (same_data k p.0) (same_data k q.0) refl refl e

lookup_in_order : (k : Data) (ps : List (Data × Data)) → lookup k (pairs_in_order ps) ≡ lookup k ps
lookup_in_order k [] = refl
lookup_in_order k (p ∷ ps) = lookup_insert k p (pairs_in_order ps) ∙ ap (λ r. if same_data k p.0 then Some p.1 else r) (lookup_in_order k ps)

pub apply_on : (k : Data) (ps : List (Data × Data)) → apply (function_on ps) k ≡ lookup k ps
apply_on k ps = ap (lookup k) (graph-pairs (pairs_in_order ps)) ∙ lookup_in_order k ps

lookup_at : (f : Data → Data) (k : Data) (ks : List Data) → IsAmong k ks → lookup k (map (λ d. (d, f d)) ks) ≡ Some (f k)
lookup_at f k [] h = absurd h
lookup_at f k (d ∷ ds) (inl e) = ap (λ b. if b then Some (f d) else lookup k (map (λ c. (c, f c)) ds)) (same_equal k d e) ∙ ap (λ c. Some (f c)) (sym e)
lookup_at f k (d ∷ ds) (inr h) = go (same_data k d) refl (lookup_at f k ds h)
  where
    go : (b : Bool) → same_data k d ≡ b → lookup k (map (λ c. (c, f c)) ds) ≡ Some (f k) → (if b then Some (f d) else lookup k (map (λ c. (c, f c)) ds)) ≡ Some (f k)
    go true e r = ap (λ c. Some (f c)) (sym (same_of k d e))
    go false e r = r

-- the value of a function at an identifier that it is made for
pub apply_at : (f : Data → Data) (k : Data) (ks : List Data) → IsAmong k ks → apply (function_at f ks) k ≡ Some (f k)
apply_at f k ks h = apply_on k (map (λ d. (d, f d)) ks) ∙ lookup_at f k ks h

items-members : (xs : Items) → items (members xs) ≡ xs
items-members no_items = refl
items-members (item x xs) = ap (item x) (items-members xs)

pub data_from : (d : Data) → data_of (value_from d) ≡ d
data_from (boolean b) = refl
data_from (integer z) = refl
data_from (string t) = refl
data_from (model t) = refl
data_from (set xs) = ap set (items-members xs)
data_from (function ps) = ap function (pairs_back ps)
