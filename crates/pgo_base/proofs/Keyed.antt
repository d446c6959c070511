-- Pairs that are sorted by key, stably, and freed of repeated keys, are the pairs in order.
use Rattle.std.proofs.Common.{◌≡◌, not, ◌&&◌, ◌⊎◌, true, false, if◌then◌else◌, List, [], ◌∷◌, map, filter, cond, Option, Some, None, refl, ap, sym, ◌∙◌, inl, inr, subst}
use Rattle.std.specs.Prelude as prelude
use Rattle.std.specs.declared.cmp.Ordering.{Ordering}
use Rattle.std.specs.declared.cmp.Ordering.TheVariants.{Less, Equal, Greater}
use Rattle.std.specs.Ordering.{on, eq_by_cmp, is_lt, is_eq, match_ordering, ordering_reverse}
use Rattle.std.specs.Cmp.{IsStrictWeakOrder}
use Rattle.std.specs.List.{AllByRecursion, dedup, dedup_from}
use Rattle.std.specs.List.Sorted as lists
use Rattle.std.specs.List.Sorted.{IsStrictlySortedBy, IsSortedBy, IsStableBy, ties}
use Rattle.std.proofs.lemmas.Cmp.{on_total}
use Rattle.std.proofs.lemmas.List.Kept.{IsStrictlySortedBy-dedup}
use Rattle.std.proofs.lemmas.List.MinMax.{ranks_by}
use Rattle.pgo_base.specs.declared.value.Value.{Value}
use Rattle.pgo_base.specs.declared.value.Value.TheVariants.{Bool, Int, Str, Model, Set, Fun}
use Rattle.pgo_base.specs.Data.{Data, boolean, integer, string, model, set, function, Items, no_items, item, items, members, Pairs, no_pairs, pair, pairs, graph, keys}
use Rattle.pgo_base.specs.View.{pair_of, key_of, value_of}
use Rattle.pgo_base.specs.Order.{data_cmp}
use Rattle.pgo_base.specs.Exact.{data_exact, data_itself}
use Rattle.pgo_base.specs.Total.{data_total}
use Rattle.pgo_base.specs.Sets.{IsSorted}
use Rattle.pgo_base.specs.Pairs.{insert_pair, pairs_in_order}

abbrev Entry : Type 0
Entry = Value × Value

-- the order of the keys, its test, and whether two keys are one
abbrev key_cmp : Entry → Entry → Ordering
key_cmp = on key_of data_cmp

abbrev pub key_lt : Entry → Entry → prelude.Bool
key_lt p q = is_lt (data_cmp (key_of p) (key_of q))

abbrev pub key_eq : Entry → Entry → prelude.Bool
key_eq = eq_by_cmp key_cmp

pub key_ranks : IsStrictWeakOrder key_lt
key_ranks = ranks_by data_total key_of

-- the value of the first pair with a key
abbrev first_at : Data → List (Data × Data) → Option Data
first_at k [] = None
first_at k (p ∷ ps) = if is_eq (data_cmp k p.0) then Some p.1 else first_at k ps

same_of : (x y : Data) → is_eq (data_cmp x y) ≡ true → x ≡ y
same_of x y h = go (data_cmp x y) refl h
  where
    go : (o : Ordering) → data_cmp x y ≡ o → is_eq o ≡ true → x ≡ y
    go Less e g = absurd (cc)
    go Equal e g = data_exact x y e
    go Greater e g = absurd (cc)

same_itself : (x : Data) → is_eq (data_cmp x x) ≡ true
same_itself x = ap is_eq (data_itself x)

not_same : (x y : Data) → data_cmp x y ≡ Less → is_eq (data_cmp x y) ≡ false
not_same x y h = ap is_eq h

not_same_back : (x y : Data) → data_cmp x y ≡ Less → is_eq (data_cmp y x) ≡ false
not_same_back x y h = ap is_eq (data_total.antisymm y x ∙ ap ordering_reverse h)

-- one pair more, put in order
first_insert : (k : Data) (p : Data × Data) (qs : List (Data × Data)) → first_at k (insert_pair p qs) ≡ first_at k (p ∷ qs)
first_insert k p [] = refl
first_insert k p (q ∷ qs) = go (data_cmp p.0 q.0) refl (first_insert k p qs)
  where
    apart : (b c : prelude.Bool) → is_eq (data_cmp k p.0) ≡ b → is_eq (data_cmp k q.0) ≡ c → data_cmp p.0 q.0 ≡ Greater → (if c then Some q.1 else (if b then Some p.1 else first_at k qs)) ≡ (if b then Some p.1 else (if c then Some q.1 else first_at k qs))
    apart true true e f g = absurd (let same : p.0 ≡ q.0 = sym (same_of k p.0 e) ∙ same_of k q.0 f in let i : data_cmp p.0 q.0 ≡ Equal = ap (data_cmp p.0) (sym same) ∙ data_itself p.0 in cc)
    apart true false e f g = refl
    apart false true e f g = refl
    apart false false e f g = refl

    over : (b c : prelude.Bool) → is_eq (data_cmp k p.0) ≡ b → is_eq (data_cmp k q.0) ≡ c → data_cmp p.0 q.0 ≡ Equal → (if b then Some p.1 else first_at k qs) ≡ (if b then Some p.1 else (if c then Some q.1 else first_at k qs))
    over true c e f g = refl
    over false true e f g = absurd (let same : p.0 ≡ q.0 = data_exact p.0 q.0 g in let i : is_eq (data_cmp k p.0) ≡ true = ap (λ x. is_eq (data_cmp k x)) same ∙ f in cc)
    over false false e f g = refl

    go : (o : Ordering) → data_cmp p.0 q.0 ≡ o → first_at k (insert_pair p qs) ≡ first_at k (p ∷ qs) → first_at k (match_ordering o (p ∷ q ∷ qs) (p ∷ qs) (q ∷ insert_pair p qs)) ≡ first_at k (p ∷ q ∷ qs)
    go Less e h = refl
    go Equal e h = over (is_eq (data_cmp k p.0)) (is_eq (data_cmp k q.0)) refl refl e
    go Greater e h = ap (λ r. if is_eq (data_cmp k q.0) then Some q.1 else r) h ∙ apart (is_eq (data_cmp k p.0)) (is_eq (data_cmp k q.0)) refl refl e

first_in_order : (k : Data) (ps : List (Data × Data)) → first_at k (pairs_in_order ps) ≡ first_at k ps
first_in_order k [] = refl
first_in_order k (p ∷ ps) = first_insert k p (pairs_in_order ps) ∙ ap (λ r. if is_eq (data_cmp k p.0) then Some p.1 else r) (first_in_order k ps)

abbrev Below : Data → List Data → Type 0
Below x ys = AllByRecursion (λ y. data_cmp x y ≡ Less) ys

below-trans : (x y : Data) (ys : List Data) → data_cmp x y ≡ Less → Below y ys → Below x ys
below-trans x y [] h b = tt
below-trans x y (z ∷ zs) h b = (data_total.trans x y z h b.0, below-trans x y zs h b.1)

below_insert : (k : Data) (p : Data × Data) (qs : List (Data × Data)) → data_cmp k p.0 ≡ Less → Below k (keys qs) → Below k (keys (insert_pair p qs))
below_insert k p [] h b = (h, tt)
below_insert k p (q ∷ qs) h b = go (data_cmp p.0 q.0) (below_insert k p qs h b.1)
  where
    go : (o : Ordering) → Below k (keys (insert_pair p qs)) → Below k (keys (match_ordering o (p ∷ q ∷ qs) (p ∷ qs) (q ∷ insert_pair p qs)))
    go Less r = (h, b)
    go Equal r = (h, b.1)
    go Greater r = (b.0, r)

sorted_insert : (p : Data × Data) (qs : List (Data × Data)) → IsSorted (keys qs) → IsSorted (keys (insert_pair p qs))
unfolding IsStrictlySortedBy
sorted_insert p [] s = (tt, tt)
sorted_insert p (q ∷ qs) s = go (data_cmp p.0 q.0) refl (sorted_insert p qs s.1)
  where
    go : (o : Ordering) → data_cmp p.0 q.0 ≡ o → IsSorted (keys (insert_pair p qs)) → IsSorted (keys (match_ordering o (p ∷ q ∷ qs) (p ∷ qs) (q ∷ insert_pair p qs)))
    go Less e r = ((e, below-trans p.0 q.0 (keys qs) e s.0), s)
    go Equal e r = (subst (λ x. Below x (keys qs)) (sym (data_exact p.0 q.0 e)) s.0, s.1)
    go Greater e r = (below_insert q.0 p qs (data_total.antisymm q.0 p.0 ∙ ap ordering_reverse e) s.0, r)

-- pairs in order have their keys in order
pub sorted_pairs_in_order : (ps : List (Data × Data)) → IsSorted (keys (pairs_in_order ps))
unfolding IsStrictlySortedBy
sorted_pairs_in_order [] = tt
sorted_pairs_in_order (p ∷ ps) = sorted_insert p (pairs_in_order ps) (sorted_pairs_in_order ps)

-- no pair has a key that is below all keys
first_below : (k : Data) (ps : List (Data × Data)) → Below k (keys ps) → first_at k ps ≡ None
first_below k [] b = refl
first_below k (p ∷ ps) b = ap (λ c. if c then Some p.1 else first_at k ps) (not_same k p.0 b.0) ∙ first_below k ps b.1

-- a key that is found is at the front, or above it
found_at : (k v : Data) (p : Data × Data) (ps : List (Data × Data)) → Below p.0 (keys ps) → first_at k (p ∷ ps) ≡ Some v → ((k ≡ p.0) × (v ≡ p.1)) ⊎ (data_cmp p.0 k ≡ Less)
found_at k v p ps b h = go (is_eq (data_cmp k p.0)) refl h
  where
    some_is : (x y : Data) → Some x ≡ Some y → x ≡ y
    some_is x y e = cc

    above : (qs : List (Data × Data)) → Below p.0 (keys qs) → first_at k qs ≡ Some v → data_cmp p.0 k ≡ Less
    above [] c e = absurd (cc)
    above (q ∷ qs) c e = step (is_eq (data_cmp k q.0)) refl e (above qs c.1)
      where
        step : (t : prelude.Bool) → is_eq (data_cmp k q.0) ≡ t → (if t then Some q.1 else first_at k qs) ≡ Some v → (first_at k qs ≡ Some v → data_cmp p.0 k ≡ Less) → data_cmp p.0 k ≡ Less
        step true f g r = ap (data_cmp p.0) (same_of k q.0 f) ∙ c.0
        step false f g r = r g

    go : (t : prelude.Bool) → is_eq (data_cmp k p.0) ≡ t → (if t then Some p.1 else first_at k ps) ≡ Some v → ((k ≡ p.0) × (v ≡ p.1)) ⊎ (data_cmp p.0 k ≡ Less)
    go true e g = inl (same_of k p.0 e, sym (some_is p.1 v g))
    go false e g = inr (above ps b g)

head_found : (p : Data × Data) (ps : List (Data × Data)) → first_at p.0 (p ∷ ps) ≡ Some p.1
head_found p ps = ap (λ c. if c then Some p.1 else first_at p.0 ps) (same_itself p.0)

not_both : (x y : Data) → data_cmp x y ≡ Less → data_cmp y x ≡ Less → ⊥
not_both x y h g = let e = data_total.trans x y x h g in let i = data_itself x in cc

same_head : (p q : Data × Data) (ps qs : List (Data × Data)) → Below p.0 (keys ps) → Below q.0 (keys qs) → ((k : Data) → first_at k (p ∷ ps) ≡ first_at k (q ∷ qs)) → p ≡ q
same_head p q ps qs b c f = go (found_at p.0 p.1 q qs c (sym (f p.0) ∙ head_found p ps)) (found_at q.0 q.1 p ps b (f q.0 ∙ head_found q qs))
  where
    go : ((p.0 ≡ q.0) × (p.1 ≡ q.1)) ⊎ (data_cmp q.0 p.0 ≡ Less) → ((q.0 ≡ p.0) × (q.1 ≡ p.1)) ⊎ (data_cmp p.0 q.0 ≡ Less) → p ≡ q
    go (inl e) g = λ i. (e.0 i, e.1 i)
    go (inr e) (inl g) = λ i. (sym g.0 i, sym g.1 i)
    go (inr e) (inr g) = absurd (not_both p.0 q.0 g e)

same_rest : (p q : Data × Data) (ps qs : List (Data × Data)) → p ≡ q → Below p.0 (keys ps) → Below q.0 (keys qs) → ((k : Data) → first_at k (p ∷ ps) ≡ first_at k (q ∷ qs)) → (k : Data) → first_at k ps ≡ first_at k qs
same_rest p q ps qs e b c f k = go (is_eq (data_cmp k p.0)) refl
  where
    go : (t : prelude.Bool) → is_eq (data_cmp k p.0) ≡ t → first_at k ps ≡ first_at k qs
    go true h =
        let same : k ≡ p.0 = same_of k p.0 h in
        first_below k ps (subst (λ x. Below x (keys ps)) (sym same) b) ∙ sym (first_below k qs (subst (λ x. Below x (keys qs)) (sym (same ∙ ap (λ r. r.0) e)) c))
    go false h =
        let left : first_at k (p ∷ ps) ≡ first_at k ps = ap (λ t. if t then Some p.1 else first_at k ps) h in
        let right : first_at k (q ∷ qs) ≡ first_at k qs = ap (λ t. if t then Some q.1 else first_at k qs) (ap (λ r. is_eq (data_cmp k r.0)) (sym e) ∙ h) in
        sym left ∙ f k ∙ right

-- two graphs in order with the same values at each key are one graph
pub same_graph : (ps qs : List (Data × Data)) → IsSorted (keys ps) → IsSorted (keys qs) → ((k : Data) → first_at k ps ≡ first_at k qs) → ps ≡ qs
unfolding IsStrictlySortedBy
same_graph [] [] s t f = refl
same_graph [] (q ∷ qs) s t f = absurd (let e : None ≡ Some q.1 = f q.0 ∙ head_found q qs in cc)
same_graph (p ∷ ps) [] s t f = absurd (let e : None ≡ Some p.1 = sym (f p.0) ∙ head_found p ps in cc)
same_graph (p ∷ ps) (q ∷ qs) s t f =
    let e : p ≡ q = same_head p q ps qs s.0 t.0 f in
    λ i. e i ∷ same_graph ps qs s.1 t.1 (same_rest p q ps qs e s.0 t.0 f) i

-- the value of the first entry
first_of : List Entry → Option Data
first_of [] = None
first_of (p ∷ ps) = Some (value_of p)

ties_is : (x p : Entry) → ties key_lt x p ≡ is_eq (data_cmp (key_of x) (key_of p))
ties_is x p = go (data_cmp (key_of x) (key_of p)) refl
  where
    back : data_cmp (key_of p) (key_of x) ≡ ordering_reverse (data_cmp (key_of x) (key_of p))
    back = data_total.antisymm (key_of p) (key_of x)

    go : (o : Ordering) → data_cmp (key_of x) (key_of p) ≡ o → ties key_lt x p ≡ is_eq (data_cmp (key_of x) (key_of p))
    go Less e = (λ i. not (is_lt (e i)) && not (key_lt p x)) ∙ sym (ap is_eq e)
    go Equal e = (λ i. not (is_lt (e i)) && not (is_lt ((back ∙ ap ordering_reverse e) i))) ∙ sym (ap is_eq e)
    go Greater e = (λ i. not (is_lt (e i)) && not (is_lt ((back ∙ ap ordering_reverse e) i))) ∙ sym (ap is_eq e)

-- the first with a key is the first that ties with an entry of that key
first_is : (x : Entry) (ps : List Entry) → first_at (key_of x) (map pair_of ps) ≡ first_of (filter (ties key_lt x) ps)
unfolding first_of
first_is x [] = refl
first_is x (p ∷ ps) = ap (λ t. if t then Some (value_of p) else first_at (key_of x) (map pair_of ps)) (sym (ties_is x p)) ∙ go (ties key_lt x p) (first_is x ps)
  where
    go : (t : prelude.Bool) → first_at (key_of x) (map pair_of ps) ≡ first_of (filter (ties key_lt x) ps) → (if t then Some (value_of p) else first_at (key_of x) (map pair_of ps)) ≡ first_of (cond t (p ∷ filter (ties key_lt x) ps) (filter (ties key_lt x) ps))
    go true h = refl
    go false h = h

-- a repeated key is not found behind the first
first_dedup : (k : Data) (p : Entry) (ps : List Entry) → first_at k (map pair_of (dedup_from key_eq p ps)) ≡ first_at k (map pair_of (p ∷ ps))
first_dedup k p [] = refl
first_dedup k p (q ∷ qs) = go (key_eq q p) refl (first_dedup k p qs) (first_dedup k q qs)
  where
    over : (b c : prelude.Bool) → is_eq (data_cmp k (key_of p)) ≡ b → is_eq (data_cmp k (key_of q)) ≡ c → key_of q ≡ key_of p → (if b then Some (value_of p) else first_at k (map pair_of qs)) ≡ (if b then Some (value_of p) else (if c then Some (value_of q) else first_at k (map pair_of qs)))
    over true c e f g = refl
    over false true e f g = absurd (let i : is_eq (data_cmp k (key_of p)) ≡ true = ap (λ x. is_eq (data_cmp k x)) (sym g) ∙ f in cc)
    over false false e f g = refl

    go : (t : prelude.Bool) → key_eq q p ≡ t → first_at k (map pair_of (dedup_from key_eq p qs)) ≡ first_at k (map pair_of (p ∷ qs)) → first_at k (map pair_of (dedup_from key_eq q qs)) ≡ first_at k (map pair_of (q ∷ qs)) → first_at k (map pair_of (cond t (dedup_from key_eq p qs) (p ∷ dedup_from key_eq q qs))) ≡ first_at k (map pair_of (p ∷ q ∷ qs))
    go true e h g = h ∙ over (is_eq (data_cmp k (key_of p))) (is_eq (data_cmp k (key_of q))) refl refl (same_of (key_of q) (key_of p) e)
    go false e h g = ap (λ r. if is_eq (data_cmp k (key_of p)) then Some (value_of p) else r) g

first_dedup_all : (k : Data) (ps : List Entry) → first_at k (map pair_of (dedup key_eq ps)) ≡ first_at k (map pair_of ps)
first_dedup_all k [] = refl
first_dedup_all k (p ∷ ps) = first_dedup k p ps

items_back : (xs : Items) → items (members xs) ≡ xs
items_back no_items = refl
items_back (item x xs) = ap (item x) (items_back xs)

pub pairs_back : (ps : Pairs) → pairs (graph ps) ≡ ps
pairs_back no_pairs = refl
pairs_back (pair k v ps) = ap (pair k v) (pairs_back ps)

-- each data is that of something in memory
with_key : (k : Data) → (x : Entry) × (key_of x ≡ k)
with_key (boolean b) = ((Bool b, Bool b), refl)
with_key (integer z) = ((Int z, Int z), refl)
with_key (string t) = ((Str t, Str t), refl)
with_key (model t) = ((Model t, Model t), refl)
with_key (set xs) = ((Set (members xs), Set (members xs)), ap set (items_back xs))
with_key (function ps) = ((Fun (graph ps), Fun (graph ps)), ap function (pairs_back ps))

first_stable : (k : Data) (xs ys : List Entry) → IsStableBy key_lt xs ys → first_at k (map pair_of ys) ≡ first_at k (map pair_of xs)
first_stable k xs ys s =
    let x = with_key k in
    subst (λ k. first_at k (map pair_of ys) ≡ first_at k (map pair_of xs)) x.1 (first_is x.0 ys ∙ ap first_of (s x.0) ∙ sym (first_is x.0 xs))

keys_map : (ps : List Entry) → keys (map pair_of ps) ≡ map key_of ps
keys_map [] = refl
keys_map (p ∷ ps) = ap (λ ks. key_of p ∷ ks) (keys_map ps)

below_map : (x : Entry) (ys : List Entry) → AllByRecursion (λ y. key_cmp x y ≡ Less) ys → Below (key_of x) (map key_of ys)
below_map x [] h = tt
below_map x (y ∷ ys) h = (h.0, below_map x ys h.1)

sorted_map : (xs : List Entry) → IsStrictlySortedBy key_cmp xs → IsSorted (map key_of xs)
unfolding IsStrictlySortedBy
sorted_map [] h = tt
sorted_map (x ∷ xs) h = (below_map x xs h.0, sorted_map xs h.1)

kept_sorted : (ys : List Entry) → lists.IsSorted key_cmp ys → IsSorted (keys (map pair_of (dedup key_eq ys)))
kept_sorted ys s = subst IsSorted (sym (keys_map (dedup key_eq ys))) (sorted_map (dedup key_eq ys) (IsStrictlySortedBy-dedup (on_total key_of data_total) (λ x y. refl) ys s))

pub keyed : (xs ys zs : List Entry) → IsStableBy key_lt xs ys → IsSortedBy key_lt ys → zs ≡ dedup key_eq ys → IsSorted (keys (map pair_of zs)) × (map pair_of zs ≡ pairs_in_order (map pair_of xs))
keyed xs ys zs s o e =
    let done : IsSorted (keys (map pair_of (dedup key_eq ys))) × (map pair_of (dedup key_eq ys) ≡ pairs_in_order (map pair_of xs)) =
    (kept_sorted ys o, same_graph (map pair_of (dedup key_eq ys)) (pairs_in_order (map pair_of xs)) (kept_sorted ys o) (sorted_pairs_in_order (map pair_of xs)) (λ k. first_dedup_all k ys ∙ first_stable k xs ys s ∙ sym (first_in_order k (map pair_of xs)))) in
    rw e done
