-- Lists that are in order stay as they are, and fields stand once exactly where none is lost in their order.
use Rattle.std.proofs.Common.{◌≡◌, ◌≤◌, suc, List, [], ◌∷◌, length, ◌⊎◌, inl, inr, refl, sym, ◌∙◌, ap, arith}
use Rattle.std.specs.declared.cmp.Ordering.{Ordering}
use Rattle.std.specs.declared.cmp.Ordering.TheVariants.{Less, Equal, Greater}
use Rattle.std.specs.Ordering.{match_ordering}
use Rattle.std.specs.List.{AllByRecursion}
use Rattle.std.specs.List.Sorted.{IsStrictlySortedBy}
use Rattle.pgo_base.specs.Data.{Data, keys}
use Rattle.pgo_base.specs.Order.{data_cmp}
use Rattle.pgo_base.specs.Total.{data_total}
use Rattle.pgo_base.specs.Exact.{data_exact, data_itself}
use Rattle.pgo_base.specs.Pairs.{insert_pair, pairs_in_order}
use Rattle.pgo_base.specs.Sets.{IsIn, IsSorted, insert_member, in_order}
use Rattle.pgo_base.proofs.Keyed.{sorted_pairs_in_order}
use Rattle.pgo_value_text.specs.IsValueText.{StandOnce}

abbrev Below : Data → List Data → Type 0
Below x ys = AllByRecursion (λ y. data_cmp x y ≡ Less) ys

no_less : (x : Data) → data_cmp x x ≡ Less → ⊥
no_less x h = let e = data_itself x in cc

not_both : (x y : Data) → data_cmp x y ≡ Less → data_cmp y x ≡ Less → ⊥
not_both x y h g = no_less x (data_total.trans x y x h g)

below_in : (x q : Data) (ys : List Data) → Below x ys → IsIn q ys → data_cmp x q ≡ Less
below_in x q [] b h = absurd h
below_in x q (y ∷ ys) b (inl e) = rw e b.0
below_in x q (y ∷ ys) b (inr g) = below_in x q ys b.1 g

-- ---- lists in order

insert_least : (x : Data) (ys : List Data) → Below x ys → insert_member x ys ≡ x ∷ ys
insert_least x [] b = refl
insert_least x (y ∷ ys) b = ap (λ o. match_ordering o (x ∷ y ∷ ys) (y ∷ ys) (y ∷ insert_member x ys)) b.0

pub members_in_order : (xs : List Data) → IsSorted xs → in_order xs ≡ xs
unfolding IsStrictlySortedBy
members_in_order [] s = refl
members_in_order (x ∷ xs) s = ap (insert_member x) (members_in_order xs s.1) ∙ insert_least x xs s.0

insert_first : (p : Data × Data) (qs : List (Data × Data)) → Below p.0 (keys qs) → insert_pair p qs ≡ p ∷ qs
insert_first p [] b = refl
insert_first p (q ∷ qs) b = ap (λ o. match_ordering o (p ∷ q ∷ qs) (p ∷ qs) (q ∷ insert_pair p qs)) b.0

pub keys_in_order : (ps : List (Data × Data)) → IsSorted (keys ps) → pairs_in_order ps ≡ ps
unfolding IsStrictlySortedBy
keys_in_order [] s = refl
keys_in_order (p ∷ ps) s = ap (insert_pair p) (keys_in_order ps s.1) ∙ insert_first p ps s.0

pub sorted_distinct : (xs : List Data) → IsSorted xs → StandOnce xs
unfolding IsStrictlySortedBy
sorted_distinct [] s = tt
sorted_distinct (x ∷ xs) s = (λ h. no_less x (below_in x x xs s.0 h), sorted_distinct xs s.1)

-- ---- keys of pairs in order

in_insert : (k : Data) (p : Data × Data) (qs : List (Data × Data)) → IsIn k (keys (insert_pair p qs)) → (k ≡ p.0) ⊎ IsIn k (keys qs)
in_insert k p [] h = h
in_insert k p (q ∷ qs) h = go (data_cmp p.0 q.0) h (in_insert k p qs)
  where
    move : (k ≡ p.0) ⊎ IsIn k (keys qs) → (k ≡ p.0) ⊎ IsIn k (keys (q ∷ qs))
    move (inl e) = inl e
    move (inr g) = inr (inr g)

    later : IsIn k (keys (p ∷ qs)) → (k ≡ p.0) ⊎ IsIn k (keys (q ∷ qs))
    later (inl e) = inl e
    later (inr g) = inr (inr g)

    go : (o : Ordering) → IsIn k (keys (match_ordering o (p ∷ q ∷ qs) (p ∷ qs) (q ∷ insert_pair p qs))) → (IsIn k (keys (insert_pair p qs)) → (k ≡ p.0) ⊎ IsIn k (keys qs)) → (k ≡ p.0) ⊎ IsIn k (keys (q ∷ qs))
    go Less h r = h
    go Equal h r = later h
    go Greater (inl e) r = inr (inl e)
    go Greater (inr g) r = move (r g)

insert_in : (k : Data) (p : Data × Data) (qs : List (Data × Data)) → (k ≡ p.0) ⊎ IsIn k (keys qs) → IsIn k (keys (insert_pair p qs))
insert_in k p [] h = h
insert_in k p (q ∷ qs) h = go (data_cmp p.0 q.0) refl h (insert_in k p qs)
  where
    go : (o : Ordering) → data_cmp p.0 q.0 ≡ o → (k ≡ p.0) ⊎ IsIn k (keys (q ∷ qs)) → ((k ≡ p.0) ⊎ IsIn k (keys qs) → IsIn k (keys (insert_pair p qs))) → IsIn k (keys (match_ordering o (p ∷ q ∷ qs) (p ∷ qs) (q ∷ insert_pair p qs)))
    go Less e g r = g
    go Equal e (inl g) r = inl g
    go Equal e (inr (inl g)) r = inl (g ∙ sym (data_exact p.0 q.0 e))
    go Equal e (inr (inr g)) r = inr g
    go Greater e (inl g) r = inr (r (inl g))
    go Greater e (inr (inl g)) r = inl g
    go Greater e (inr (inr g)) r = inr (r (inr g))

in_keys : (k : Data) (ps : List (Data × Data)) → IsIn k (keys (pairs_in_order ps)) → IsIn k (keys ps)
in_keys k [] h = h
in_keys k (p ∷ ps) h = go (in_insert k p (pairs_in_order ps) h) (in_keys k ps)
  where
    go : (k ≡ p.0) ⊎ IsIn k (keys (pairs_in_order ps)) → (IsIn k (keys (pairs_in_order ps)) → IsIn k (keys ps)) → IsIn k (keys (p ∷ ps))
    go (inl e) r = inl e
    go (inr g) r = inr (r g)

keys_in : (k : Data) (ps : List (Data × Data)) → IsIn k (keys ps) → IsIn k (keys (pairs_in_order ps))
keys_in k [] h = h
keys_in k (p ∷ ps) (inl e) = insert_in k p (pairs_in_order ps) (inl e)
keys_in k (p ∷ ps) (inr g) = insert_in k p (pairs_in_order ps) (inr (keys_in k ps g))

-- ---- how many pairs there are in order

new_key : (p : Data × Data) (qs : List (Data × Data)) → (IsIn p.0 (keys qs) → ⊥) → length (insert_pair p qs) ≡ suc (length qs)
new_key p [] n = refl
new_key p (q ∷ qs) n = go (data_cmp p.0 q.0) refl (new_key p qs (λ h. n (inr h)))
  where
    go : (o : Ordering) → data_cmp p.0 q.0 ≡ o → length (insert_pair p qs) ≡ suc (length qs) → length (match_ordering o (p ∷ q ∷ qs) (p ∷ qs) (q ∷ insert_pair p qs)) ≡ suc (length (q ∷ qs))
    go Less e r = refl
    go Equal e r = absurd (n (inl (data_exact p.0 q.0 e)))
    go Greater e r = ap suc r

old_key : (p : Data × Data) (qs : List (Data × Data)) → IsSorted (keys qs) → IsIn p.0 (keys qs) → length (insert_pair p qs) ≡ length qs
unfolding IsStrictlySortedBy
old_key p [] s h = absurd h
old_key p (q ∷ qs) s h = go (data_cmp p.0 q.0) refl h (old_key p qs s.1)
  where
    go : (o : Ordering) → data_cmp p.0 q.0 ≡ o → IsIn p.0 (keys (q ∷ qs)) → (IsIn p.0 (keys qs) → length (insert_pair p qs) ≡ length qs) → length (match_ordering o (p ∷ q ∷ qs) (p ∷ qs) (q ∷ insert_pair p qs)) ≡ length (q ∷ qs)
    go Less e (inl g) r = absurd (no_less q.0 (ap (λ k. data_cmp k q.0) (sym g) ∙ e))
    go Less e (inr g) r = absurd (not_both p.0 q.0 e (below_in q.0 p.0 (keys qs) s.0 g))
    go Equal e g r = refl
    go Greater e (inl g) r = absurd (let i = data_itself q.0 in let k = ap (λ k. data_cmp k q.0) (sym g) ∙ e in cc)
    go Greater e (inr g) r = ap suc (r g)

insert_length : (p : Data × Data) (qs : List (Data × Data)) → length (insert_pair p qs) ≤ suc (length qs)
insert_length p [] = omega arith
insert_length p (q ∷ qs) = go (data_cmp p.0 q.0) (insert_length p qs)
  where
    go : (o : Ordering) → length (insert_pair p qs) ≤ suc (length qs) → length (match_ordering o (p ∷ q ∷ qs) (p ∷ qs) (q ∷ insert_pair p qs)) ≤ suc (length (q ∷ qs))
    go Less r = omega arith
    go Equal r = omega arith
    go Greater r = omega arith

order_length : (ps : List (Data × Data)) → length (pairs_in_order ps) ≤ length ps
order_length [] = omega arith
order_length (p ∷ ps) = omega (arith, insert_length p (pairs_in_order ps), order_length ps)

pub distinct_fields : (ps : List (Data × Data)) → length (pairs_in_order ps) ≡ length ps → StandOnce (keys ps)
distinct_fields [] h = tt
distinct_fields (p ∷ ps) h =
    let most = insert_length p (pairs_in_order ps) in
    let few = order_length ps in
    let rest : length (pairs_in_order ps) ≡ length ps = omega arith in
    (λ g. let same = old_key p (pairs_in_order ps) (sorted_pairs_in_order ps) (keys_in p.0 ps g) in omega arith, distinct_fields ps rest)

pub fields_distinct : (ps : List (Data × Data)) → StandOnce (keys ps) → length (pairs_in_order ps) ≡ length ps
fields_distinct [] h = refl
fields_distinct (p ∷ ps) h = new_key p (pairs_in_order ps) (λ g. h.0 (in_keys p.0 ps g)) ∙ ap suc (fields_distinct ps h.1)
