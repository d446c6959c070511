-- A list of values in order, each once, and the one such list that has given members.
use Rattle.std.specs.Prelude.{◌≡◌, ◌⊎◌, List, [], ◌∷◌, refl}
use Rattle.std.proofs.Common.{sym, ap, ◌∙◌, inl, inr}
use Rattle.std.specs.declared.cmp.Ordering.{Ordering}
use Rattle.std.specs.declared.cmp.Ordering.TheVariants.{Less, Equal, Greater}
use Rattle.std.specs.Ordering.{ordering_reverse, match_ordering}
use Rattle.std.specs.List.{AllByRecursion}
use Rattle.std.specs.List.Sorted.{IsStrictlySortedBy}
use Rattle.pgo_base.specs.Data.{Data}
pub use Rattle.pgo_base.specs.Lists.{IsAmong as IsIn}
use Rattle.pgo_base.specs.Order.{data_cmp}
use Rattle.pgo_base.specs.Total.{data_total}
use Rattle.pgo_base.specs.Exact.{data_exact, data_itself}

-- x in its place, if it is not there
abbrev pub insert_member : Data → List Data → List Data
insert_member x [] = x ∷ []
insert_member x (y ∷ ys) = match_ordering (data_cmp x y) (x ∷ y ∷ ys) (y ∷ ys) (y ∷ insert_member x ys)

-- the members in order, each once
abbrev pub in_order : List Data → List Data
in_order [] = []
in_order (x ∷ xs) = insert_member x (in_order xs)

abbrev pub IsSorted : List Data → Type 0
IsSorted = IsStrictlySortedBy data_cmp

abbrev Below : Data → List Data → Type 0
Below x ys = AllByRecursion (λ y. data_cmp x y ≡ Less) ys

less_of_greater : (x y : Data) → data_cmp x y ≡ Greater → data_cmp y x ≡ Less
less_of_greater x y h = data_total.antisymm y x ∙ ap ordering_reverse h

no_less_itself : (x : Data) → data_cmp x x ≡ Less → ⊥
no_less_itself x h = let e = data_itself x in cc

not_both : (x y : Data) → data_cmp x y ≡ Less → data_cmp y x ≡ Less → ⊥
not_both x y h g = no_less_itself x (data_total.trans x y x h g)

below-trans : (x y : Data) (ys : List Data) → data_cmp x y ≡ Less → Below y ys → Below x ys
below-trans x y [] h b = tt
below-trans x y (z ∷ zs) h b = (data_total.trans x y z h b.0, below-trans x y zs h b.1)

below-insert : (y x : Data) (ys : List Data) → data_cmp y x ≡ Less → Below y ys → Below y (insert_member x ys)
below-insert y x [] h b = (h, tt)
below-insert y x (z ∷ zs) h b = go (data_cmp x z) (below-insert y x zs h b.1)
  where
    go : (o : Ordering) → Below y (insert_member x zs) → Below y (match_ordering o (x ∷ z ∷ zs) (z ∷ zs) (z ∷ insert_member x zs))
    go Less r = (h, b)
    go Equal r = b
    go Greater r = (b.0, r)

sorted-insert : (x : Data) (ys : List Data) → IsSorted ys → IsSorted (insert_member x ys)
unfolding IsStrictlySortedBy
sorted-insert x [] s = (tt, tt)
sorted-insert x (y ∷ ys) s = go (data_cmp x y) refl (sorted-insert x ys s.1)
  where
    go : (o : Ordering) → data_cmp x y ≡ o → IsSorted (insert_member x ys) → IsSorted (match_ordering o (x ∷ y ∷ ys) (y ∷ ys) (y ∷ insert_member x ys))
    go Less e r = ((e, below-trans x y ys e s.0), s)
    go Equal e r = s
    go Greater e r = (below-insert y x ys (less_of_greater x y e) s.0, r)

pub sorted-in_order : (xs : List Data) → IsSorted (in_order xs)
unfolding IsStrictlySortedBy
sorted-in_order [] = tt
sorted-in_order (x ∷ xs) = sorted-insert x (in_order xs) (sorted-in_order xs)

in-insert : (q x : Data) (ys : List Data) → IsIn q (insert_member x ys) → (q ≡ x) ⊎ IsIn q ys
in-insert q x [] h = h
in-insert q x (y ∷ ys) h = go (data_cmp x y) h (in-insert q x ys)
  where
    move : (q ≡ x) ⊎ IsIn q ys → (q ≡ x) ⊎ IsIn q (y ∷ ys)
    move (inl e) = inl e
    move (inr g) = inr (inr g)

    go : (o : Ordering) → IsIn q (match_ordering o (x ∷ y ∷ ys) (y ∷ ys) (y ∷ insert_member x ys)) → (IsIn q (insert_member x ys) → (q ≡ x) ⊎ IsIn q ys) → (q ≡ x) ⊎ IsIn q (y ∷ ys)
    go Less g r = g
    go Equal g r = inr g
    go Greater (inl e) r = inr (inl e)
    go Greater (inr g) r = move (r g)

insert-in : (q x : Data) (ys : List Data) → (q ≡ x) ⊎ IsIn q ys → IsIn q (insert_member x ys)
insert-in q x [] h = h
insert-in q x (y ∷ ys) h = go (data_cmp x y) refl h (insert-in q x ys)
  where
    go : (o : Ordering) → data_cmp x y ≡ o → (q ≡ x) ⊎ IsIn q (y ∷ ys) → ((q ≡ x) ⊎ IsIn q ys → IsIn q (insert_member x ys)) → IsIn q (match_ordering o (x ∷ y ∷ ys) (y ∷ ys) (y ∷ insert_member x ys))
    go Less e g r = g
    go Equal e (inl g) r = inl (g ∙ data_exact x y e)
    go Equal e (inr g) r = g
    go Greater e (inl g) r = inr (r (inl g))
    go Greater e (inr (inl g)) r = inl g
    go Greater e (inr (inr g)) r = inr (r (inr g))

pub in-in_order : (q : Data) (xs : List Data) → IsIn q (in_order xs) → IsIn q xs
in-in_order q [] h = h
in-in_order q (x ∷ xs) h = go (in-insert q x (in_order xs) h) (in-in_order q xs)
  where
    go : (q ≡ x) ⊎ IsIn q (in_order xs) → (IsIn q (in_order xs) → IsIn q xs) → IsIn q (x ∷ xs)
    go (inl e) r = inl e
    go (inr g) r = inr (r g)

pub in_order-in : (q : Data) (xs : List Data) → IsIn q xs → IsIn q (in_order xs)
in_order-in q [] h = h
in_order-in q (x ∷ xs) (inl e) = insert-in q x (in_order xs) (inl e)
in_order-in q (x ∷ xs) (inr g) = insert-in q x (in_order xs) (inr (in_order-in q xs g))

below-in : (x q : Data) (ys : List Data) → Below x ys → IsIn q ys → data_cmp x q ≡ Less
below-in x q [] b h = absurd h
below-in x q (y ∷ ys) b (inl e) = rw e b.0
below-in x q (y ∷ ys) b (inr g) = below-in x q ys b.1 g

same_first : (x y : Data) (xs ys : List Data) → Below x xs → Below y ys → IsIn x (y ∷ ys) → IsIn y (x ∷ xs) → x ≡ y
same_first x y xs ys b c (inl e) g = e
same_first x y xs ys b c (inr h) (inl e) = sym e
same_first x y xs ys b c (inr h) (inr g) = absurd (not_both x y (below-in x y xs b g) (below-in y x ys c h))

into_tail : (q x y : Data) (xs ys : List Data) → x ≡ y → Below x xs → IsIn q xs → IsIn q (y ∷ ys) → IsIn q ys
into_tail q x y xs ys e b h (inl g) = absurd (let k = below-in x q xs b h in let i = data_itself x in cc)
into_tail q x y xs ys e b h (inr g) = g

-- two sorted lists with the same members are one list
pub same_sorted : (xs ys : List Data) → IsSorted xs → IsSorted ys → ((q : Data) → IsIn q xs → IsIn q ys) → ((q : Data) → IsIn q ys → IsIn q xs) → xs ≡ ys
unfolding IsStrictlySortedBy
same_sorted [] [] s t f g = refl
same_sorted [] (y ∷ ys) s t f g = absurd (g y (inl refl))
same_sorted (x ∷ xs) [] s t f g = absurd (f x (inl refl))
same_sorted (x ∷ xs) (y ∷ ys) s t f g =
    let e : x ≡ y = same_first x y xs ys s.0 t.0 (f x (inl refl)) (g y (inl refl)) in
    λ i. e i ∷ same_sorted xs ys s.1 t.1 (λ q h. into_tail q x y xs ys e s.0 h (f q (inr h))) (λ q h. into_tail q y x ys xs (sym e) t.0 h (g q (inr h))) i
