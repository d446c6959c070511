-- What stands among members and pairs that are put in order, what the building of values tests, and what holds of each in lists.
use Rattle.std.proofs.Common.{◌≡◌, ◌⊎◌, ℕ, zero, suc, ◌+◌, ◌<◌, ◌≤◌, ℤ, pos, ◌+ℤ◌, Bool, true, false, List, [], ◌∷◌, ◌++◌, length, map, Option, Some, None, refl, sym, ap, ◌∙◌, subst, option_map, inl, inr, arith}
use Rattle.std.proofs.Math.IntN.{+ℤ_assoc, +ℤ_idr}
use Rattle.std.proofs.lemmas.Bool.Decides.{nat_tests}
use Rattle.std.specs.Prelude.{if◌then◌else◌, nat_lt, cond}
use Rattle.std.specs.List.{AllByRecursion}
use Rattle.std.specs.List.Sorted.{IsStrictlySortedBy}
use Rattle.std.specs.Ordering.{int_cmp, match_ordering}
use Rattle.std.specs.declared.cmp.Ordering.{Ordering}
use Rattle.std.specs.declared.cmp.Ordering.TheVariants.{Less, Equal, Greater}
use Rattle.std.proofs.lemmas.Option.{same_Some}
use Rattle.pgo_base.specs.Data.{Data, boolean, integer, string, model, set, function, Items, members, keys}
use Rattle.pgo_base.specs.Order.{data_cmp}
use Rattle.pgo_base.specs.Pairs.{pairs_in_order, insert_pair}
use Rattle.pgo_base.specs.Sets.{in_order, insert_member, IsSorted, IsIn, same_sorted, sorted-in_order, in-in_order, in_order-in}
use Rattle.pgo_base.specs.Size.{depth}
use Rattle.pgo_model.specs.FunctionSets.{Choices, choices_of}
use Rattle.pgo_model.specs.Operators.{each, contains, same_data, both, built, most_depth, most_members, members_of, on_integers, choices, spread, put, sublists, where_few, sequence_at, upward}
use Rattle.pgo_bound.specs.Among.{IsAmong, among_append, from_map}
use Rattle.pgo_bound.specs.Keyed.{keys_ordered}
use Rattle.pgo_bound.specs.Lookups.{same_itself}

pub none_is : {A : Type 0} (a : A) → None ≡ Some a → ⊥
none_is a h = cc

-- ---- what holds of each

pub all_joined : {A : Type 0} (P : A → Type 0) (xs ys : List A) → AllByRecursion P xs → AllByRecursion P ys → AllByRecursion P (xs ++ ys)
all_joined P [] ys hs gs = gs
all_joined P (x ∷ xs) ys hs gs = (hs.0, all_joined P xs ys hs.1 gs)

-- ---- what is built

pub built_is : (n : ℕ) (v w : Data) → built n v ≡ Some w → v ≡ w
built_is n v w h = go (nat_lt most_depth (depth v)) (nat_lt most_members n) h
  where
    go : (b c : Bool) → (if b then None else (if c then None else Some v)) ≡ Some w → v ≡ w
    go true c e = absurd (cc)
    go false true e = absurd (cc)
    go false false e = same_Some v w e

-- what is built has few members
pub built_few : (n : ℕ) (v w : Data) → built n v ≡ Some w → nat_lt most_members n ≡ false
built_few n v w h = go (nat_lt most_depth (depth v)) (nat_lt most_members n) h
  where
    go : (b c : Bool) → (if b then None else (if c then None else Some v)) ≡ Some w → c ≡ false
    go true c e = absurd (cc)
    go false true e = absurd (cc)
    go false false e = refl

pub made_of : (n : ℕ) (make : Unit {0} → Option Data) (v : Data) → where_few n make ≡ Some v → make tt ≡ Some v
made_of n make v h = go (nat_lt most_members n) h
  where
    go : (b : Bool) → (elim b as (λ b. Option Data) [ true ↦ None | false ↦ make tt ]) ≡ Some v → make tt ≡ Some v
    go true k = absurd (cc)
    go false k = k

-- ---- parts of what has a value

pub both_parts : {A B C : Type 0} (f : A → B → Option C) (a : Option A) (b : Option B) (c : C) → both f a b ≡ Some c → (x : A) × ((y : B) × (a ≡ Some x) × (b ≡ Some y) × (f x y ≡ Some c))
both_parts f None b c h = absurd (cc)
both_parts f (Some x) None c h = absurd (cc)
both_parts f (Some x) (Some y) c h = (x, (y, refl, refl, h))

pub is_set : (x : Data) (ms : List Data) → members_of x ≡ Some ms → (xs : Items) × (x ≡ set xs) × (members xs ≡ ms)
is_set (set xs) ms h = (xs, refl, same_Some (members xs) ms h)
is_set (boolean b) ms h = absurd (cc)
is_set (integer b) ms h = absurd (cc)
is_set (string b) ms h = absurd (cc)
is_set (model b) ms h = absurd (cc)
is_set (function b) ms h = absurd (cc)

second_integer : (f : ℤ → ℤ → Option Data) (y : ℤ) (b c : Data) → on_integers f (integer y) b ≡ Some c → (z : ℤ) × (b ≡ integer z)
second_integer f y (integer z) c h = (z, refl)
second_integer f y (boolean b) c h = absurd (none_is c h)
second_integer f y (string b) c h = absurd (none_is c h)
second_integer f y (model b) c h = absurd (none_is c h)
second_integer f y (set b) c h = absurd (none_is c h)
second_integer f y (function b) c h = absurd (none_is c h)

pub two_integers : (f : ℤ → ℤ → Option Data) (a b c : Data) → on_integers f a b ≡ Some c → (y z : ℤ) × (a ≡ integer y) × (b ≡ integer z)
two_integers f (integer y) b c h = let r = second_integer f y b c h in (y, r.0, refl, r.1)
two_integers f (boolean a) b c h = absurd (none_is c h)
two_integers f (string a) b c h = absurd (none_is c h)
two_integers f (model a) b c h = absurd (none_is c h)
two_integers f (set a) b c h = absurd (none_is c h)
two_integers f (function a) b c h = absurd (none_is c h)

-- ---- each

pub each_step : {A B : Type 0} (f : A → Option B) (a : A) (as' : List A) (ys : List B) → each f (a ∷ as') ≡ Some ys → (b : B) × ((bs : List B) × (f a ≡ Some b) × (each f as' ≡ Some bs) × (ys ≡ b ∷ bs))
each_step {B = B} f a as' ys h = go (f a) (each f as') refl refl h
  where
    go : (o : Option B) (p : Option (List B)) → f a ≡ o → each f as' ≡ p → both (λ b bs. Some (b ∷ bs)) o p ≡ Some ys → (b : B) × ((bs : List B) × (f a ≡ Some b) × (each f as' ≡ Some bs) × (ys ≡ b ∷ bs))
    go None p e g k = absurd (cc)
    go (Some b) None e g k = absurd (cc)
    go (Some b) (Some bs) e g k = (b, (bs, e, g, sym (same_Some (b ∷ bs) ys k)))

pub each_from : {A B : Type 0} (f : A → Option B) (xs : List A) (ys : List B) → each f xs ≡ Some ys → (y : B) → IsAmong y ys → (x : A) × IsAmong x xs × (f x ≡ Some y)
each_from f [] ys h y m = absurd (subst (IsAmong y) (sym (same_Some [] ys h)) m)
each_from {A = A} f (a ∷ xs) ys h y m = let r = each_step f a xs ys h in go r.0 r.1.0 r.1.1 (subst (IsAmong y) r.1.3 m) (each_from f xs r.1.0 r.1.2 y)
  where
    go : (b : _) (bs : List _) → f a ≡ Some b → (y ≡ b) ⊎ IsAmong y bs → (IsAmong y bs → (x : A) × IsAmong x xs × (f x ≡ Some y)) → (x : A) × IsAmong x (a ∷ xs) × (f x ≡ Some y)
    go b bs e (inl q) r = (a, inl refl, e ∙ ap Some (sym q))
    go b bs e (inr q) r = let z = r q in (z.0, inr z.1, z.2)

-- ---- members in order

pub among_in : (q : Data) (xs : List Data) → IsAmong q xs → IsIn q xs
among_in q [] h = h
among_in q (x ∷ xs) (inl e) = inl e
among_in q (x ∷ xs) (inr h) = inr (among_in q xs h)

pub in_among : (q : Data) (xs : List Data) → IsIn q xs → IsAmong q xs
in_among q [] h = h
in_among q (x ∷ xs) (inl e) = inl e
in_among q (x ∷ xs) (inr h) = inr (in_among q xs h)

pub of_ordered : (v : Data) (fs : List Data) → IsAmong v (in_order fs) → IsAmong v fs
of_ordered v fs m = in_among v fs (in-in_order v fs (among_in v (in_order fs) m))

-- what is among the members is contained
pub contained : (v : Data) (xs : List Data) → IsAmong v xs → contains v xs ≡ true
contained v [] h = absurd h
contained v (x ∷ xs) (inl e) = ap (λ b. if b then true else contains v xs) (ap (same_data v) (sym e) ∙ same_itself v)
contained v (x ∷ xs) (inr h) = go (same_data v x) (contained v xs h)
  where
    go : (b : Bool) → contains v xs ≡ true → (if b then true else contains v xs) ≡ true
    go true r = refl
    go false r = r

pub ordered_is : (xs : List Data) → IsSorted xs → in_order xs ≡ xs
ordered_is xs s = same_sorted (in_order xs) xs (sorted-in_order xs) s (λ z i. in-in_order z xs i) (λ z i. in_order-in z xs i)

pub length_keys : (ps : List (Data × Data)) → length (keys ps) ≡ length ps
length_keys [] = refl
length_keys (p ∷ ps) = ap suc (length_keys ps)

-- pairs in order are as many as their keys in order
pub length_ordered : (ps : List (Data × Data)) → length (pairs_in_order ps) ≡ length (in_order (keys ps))
length_ordered ps = sym (length_keys (pairs_in_order ps)) ∙ ap length (keys_ordered ps)

longer : (x : Data) (ys : List Data) → length (insert_member x ys) ≤ suc (length ys)
longer x [] = omega arith
longer x (y ∷ ys) = go (data_cmp x y) (longer x ys)
  where
    go : (o : Ordering) → length (insert_member x ys) ≤ suc (length ys) → length (match_ordering o (x ∷ y ∷ ys) (y ∷ ys) (y ∷ insert_member x ys)) ≤ suc (length (y ∷ ys))
    go Less h = omega arith
    go Equal h = omega arith
    go Greater h = omega (arith, h)

-- members and pairs in order are no more than before
pub ordered_few : (xs : List Data) → length (in_order xs) ≤ length xs
ordered_few [] = omega arith
ordered_few (x ∷ xs) = let a = longer x (in_order xs) in let b = ordered_few xs in omega (arith, a, b)

pub ordered_pairs_few : (ps : List (Data × Data)) → length (pairs_in_order ps) ≤ length ps
ordered_pairs_few ps = let a = length_ordered ps in let b = ordered_few (keys ps) in let c = length_keys ps in omega (arith, a, b, c)

insert_among : (p q : Data × Data) (qs : List (Data × Data)) → IsAmong q (insert_pair p qs) → (q ≡ p) ⊎ IsAmong q qs
insert_among p q [] h = h
insert_among p q (r ∷ qs) h = go (data_cmp p.0 r.0) h (insert_among p q qs)
  where
    move : (q ≡ p) ⊎ IsAmong q qs → (q ≡ p) ⊎ IsAmong q (r ∷ qs)
    move (inl e) = inl e
    move (inr m) = inr (inr m)

    go : (o : Ordering) → IsAmong q (match_ordering o (p ∷ r ∷ qs) (p ∷ qs) (r ∷ insert_pair p qs)) → (IsAmong q (insert_pair p qs) → (q ≡ p) ⊎ IsAmong q qs) → (q ≡ p) ⊎ IsAmong q (r ∷ qs)
    go Less g f = g
    go Equal (inl e) f = inl e
    go Equal (inr m) f = inr (inr m)
    go Greater (inl e) f = inr (inl e)
    go Greater (inr m) f = move (f m)

pub ordered_among : (q : Data × Data) (ps : List (Data × Data)) → IsAmong q (pairs_in_order ps) → IsAmong q ps
ordered_among q [] h = h
ordered_among q (p ∷ ps) h = go (insert_among p q (pairs_in_order ps) h) (ordered_among q ps)
  where
    go : (q ≡ p) ⊎ IsAmong q (pairs_in_order ps) → (IsAmong q (pairs_in_order ps) → IsAmong q ps) → (q ≡ p) ⊎ IsAmong q ps
    go (inl e) f = inl e
    go (inr m) f = inr (f m)

-- ---- lists of members

sublists_in : (n : Data) (q : Data) (k ms : List Data) → (q ≡ n) ⊎ IsAmong q k → (IsAmong q k → IsAmong q ms) → (q ≡ n) ⊎ IsAmong q ms
sublists_in n q k ms (inl e) r = inl e
sublists_in n q k ms (inr i) r = inr (r i)

pub sublist_in : (l ms : List Data) → IsAmong l (sublists ms) → (q : Data) → IsAmong q l → IsAmong q ms
sublist_in l [] (inl e) q m = subst (IsAmong q) e m
sublist_in l [] (inr h) q m = absurd h
sublist_in l (n ∷ ms) h q m = go (among_append l (map (λ xs. n ∷ xs) (sublists ms)) (sublists ms) h) (λ k i r. sublist_in k ms i q r)
  where
    go : IsAmong l (map (λ xs. n ∷ xs) (sublists ms)) ⊎ IsAmong l (sublists ms) → ((k : List Data) → IsAmong k (sublists ms) → IsAmong q k → IsAmong q ms) → IsAmong q (n ∷ ms)
    go (inl g) r = let o = from_map (λ xs. n ∷ xs) l (sublists ms) g in sublists_in n q o.0 ms (subst (IsAmong q) o.2 m) (r o.0 o.1)
    go (inr g) r = inr (r l g m)

-- one member from each
abbrev pub InChoices : List (List Data) → List Data → Type 0
InChoices [] [] = Unit {0}
InChoices [] (v ∷ vs) = ⊥
InChoices (ms ∷ mss) [] = ⊥
InChoices (ms ∷ mss) (v ∷ vs) = IsAmong v ms × InChoices mss vs

put_in : (m : Data) (z : List Data) (cs : List (List Data)) → IsAmong z (put m cs) → (c : List Data) × IsAmong c cs × (z ≡ m ∷ c)
put_in m z [] h = absurd h
put_in m z (d ∷ cs) (inl e) = (d, inl refl, e)
put_in m z (d ∷ cs) (inr h) = let r = put_in m z cs h in (r.0, inr r.1, r.2)

spread_in : (z : List Data) (ms : List Data) (cs : List (List Data)) → IsAmong z (spread ms cs) → (m : Data) × ((c : List Data) × IsAmong m ms × IsAmong c cs × (z ≡ m ∷ c))
spread_in z [] cs h = absurd h
spread_in z (n ∷ ms) cs h = go (among_append z (put n cs) (spread ms cs) h) (spread_in z ms cs)
  where
    go : IsAmong z (put n cs) ⊎ IsAmong z (spread ms cs) → (IsAmong z (spread ms cs) → (m : Data) × ((c : List Data) × IsAmong m ms × IsAmong c cs × (z ≡ m ∷ c))) → (m : Data) × ((c : List Data) × IsAmong m (n ∷ ms) × IsAmong c cs × (z ≡ m ∷ c))
    go (inl g) r = let p = put_in n z cs g in (n, (p.0, inl refl, p.1, p.2))
    go (inr g) r = let q = r g in (q.0, (q.1.0, inr q.1.1, q.1.2, q.1.3))

pub choices_in : (mss : List (List Data)) (vs : List Data) → IsAmong vs (choices mss) → InChoices mss vs
choices_in [] vs (inl e) = subst (InChoices []) (sym e) tt
choices_in [] vs (inr h) = absurd h
choices_in (ms ∷ mss) vs h =
    let r = spread_in vs ms (choices mss) h in
    subst (InChoices (ms ∷ mss)) (sym r.1.3) (r.1.1, choices_in mss r.1.0 r.1.2)

-- a key, and the set from which its value is chosen
abbrev pub key_of : Data × List Data → Data
key_of c = c.0

abbrev pub set_at : Data × List Data → List Data
set_at c = c.1

pub choices_keys : (ps : List (Data × Data)) (cs : Choices) → choices_of ps ≡ Some cs → map key_of cs ≡ keys ps
choices_keys [] cs h = ap (map key_of) (sym (same_Some [] cs h))
choices_keys (p ∷ ps) cs h =
    let r = each_step (λ p. option_map (λ ms. (p.0, ms)) (members_of p.1)) p ps cs h in
    ap (map key_of) r.1.3 ∙ (λ i. first_key (members_of p.1) r.0 r.1.1 i ∷ choices_keys ps r.1.0 r.1.2 i)
  where
    first_key : (o : Option (List Data)) (c : Data × List Data) → option_map (λ ms. (p.0, ms)) o ≡ Some c → c.0 ≡ p.0
    first_key None c g = absurd (cc)
    first_key (Some ms) c g = sym (ap (λ z. z.0) (same_Some (p.0, ms) c g))

-- ---- ranges

pub upward_in : (v : Data) (a : ℤ) (n : ℕ) → IsAmong v (upward a n) → (k : ℕ) × (k < n) × (v ≡ integer (a +ℤ pos k))
upward_in v a zero h = absurd h
upward_in v a (suc n) (inl e) = (0, omega arith, e ∙ ap integer (sym (+ℤ_idr a)))
upward_in v a (suc n) (inr h) =
    let r = upward_in v (a +ℤ pos 1) n h in
    (suc r.0, omega (arith, r.1), r.2 ∙ ap integer (+ℤ_assoc a (pos 1) (pos r.0) ∙ ap (λ m. a +ℤ pos m) (let e : 1 + r.0 ≡ suc r.0 = omega arith in e)))

-- ---- the keys of sequences

number_less : (m n : ℕ) → m < n → int_cmp (pos m) (pos n) ≡ Less
number_less m n h = let less : nat_lt m n ≡ true = grind (arith, nat_tests) in ap (λ b. cond b Less (cond (nat_lt n m) Greater Equal)) less

below_later : (m n : ℕ) (xs : List Data) → m < n → AllByRecursion (λ k. data_cmp (integer (pos m)) k ≡ Less) (keys (sequence_at n xs))
below_later m n [] h = tt
below_later m n (x ∷ xs) h = (number_less m n h, below_later m (suc n) xs (omega arith))

pub sequence_sorted : (n : ℕ) (xs : List Data) → IsSorted (keys (sequence_at n xs))
unfolding IsStrictlySortedBy
sequence_sorted n [] = tt
sequence_sorted n (x ∷ xs) = (below_later n (suc n) xs (omega arith), sequence_sorted (suc n) xs)

pub sequence_length : (n : ℕ) (xs : List Data) → length (sequence_at n xs) ≡ length xs
sequence_length n [] = refl
sequence_length n (x ∷ xs) = ap suc (sequence_length (suc n) xs)

-- a sequence has as many keys in order as elements
pub sequence_keys : (xs : List Data) → length (in_order (keys (sequence_at 1 xs))) ≡ length xs
sequence_keys xs = ap length (ordered_is (keys (sequence_at 1 xs)) (sequence_sorted 1 xs)) ∙ length_keys (sequence_at 1 xs) ∙ sequence_length 1 xs
