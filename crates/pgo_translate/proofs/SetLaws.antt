-- What an expression holds at the right of `\in` is what its set has, where it has one whose parts are in order.
use Rattle.std.proofs.Common.{◌≡◌, ◌⊎◌, ℕ, zero, suc, ◌+◌, ◌-◌, ◌<◌, ◌^◌, ℤ, pos, negsuc, ◌+ℤ◌, int_lt, ltb, cond, Bool, true, false, not, List, [], ◌∷◌, ◌++◌, length, map, Option, Some, None, refl, sym, ap, ◌∙◌, subst, option_and_then, inl, inr, ⊎_elim, arith}
use Rattle.std.proofs.Math.IntN.{+ℤ_comm, +ℤ_assoc, +ℤ_idr}
use Rattle.std.proofs.lemmas.Bool.Decides.{nat_tests}
use Rattle.std.specs.Prelude.{◌&&◌, nat_lt}
use Rattle.std.specs.List.Sorted.{IsStrictlySortedBy}
use Rattle.std.specs.declared.cmp.Ordering.TheVariants.{Less}
use Rattle.pgo_base.proofs.Keyed.{pairs_back}
use Rattle.pgo_base.specs.Data.{Data, boolean, integer, string, model, set, function, Items, no_items, item, items, members, pairs, graph, keys, graph-pairs, members-items}
use Rattle.pgo_base.specs.Exact.{data_itself}
use Rattle.pgo_base.specs.Order.{data_cmp}
use Rattle.pgo_base.specs.Total.{data_total}
use Rattle.pgo_base.specs.Pairs.{pairs_in_order}
use Rattle.pgo_base.specs.Sets.{in_order, IsSorted, in_order-in}
use Rattle.pgo_model.specs.FunctionSets.{Choices, paired, functions_over, graph_fits, fits, choice_count}
use Rattle.pgo_model.specs.Operators.{each, contains, included, lookup, same_data, set_from, function_from, choices, spread, put, sublists, where_few, upward, span, count_to, range, within_range}
use Rattle.pgo_model.specs.Val.{is_subset}
use Rattle.pgo_bound.specs.Among.{IsAmong}
use Rattle.pgo_bound.specs.Among.{among_left, among_right, among_map, all_at}
use Rattle.pgo_bound.specs.Keyed.{keys_ordered}
use Rattle.pgo_bound.specs.Once.{StandOnce}
use Rattle.pgo_bound.specs.Lookups.{apply_on, same_of, same_equal}
use Rattle.pgo_values.proofs.Graphs.{same_graph, sorted_once}
use Rattle.pgo_values.proofs.Lists.{contained, key_of, set_at, InChoices, among_in, built_is, choices_in, each_from, each_step, in_among, made_of, of_ordered, ordered_is, sublist_in, upward_in}
use Rattle.pgo_translate.proofs.Graphs.{and_both}
use Rattle.pgo_translate.proofs.Kleene.{contains_cases}
use Rattle.pgo_translate.proofs.Upward.{above, span_above, above_self, neither_less}

pub same_test : (b c : Bool) → (b ≡ true → c ≡ true) → (c ≡ true → b ≡ true) → b ≡ c
same_test true c f g = sym (f refl)
same_test false true f g = g refl
same_test false false f g = refl

-- what is contained is among the members
pub in_list : (q : Data) (ys : List Data) → contains q ys ≡ true → IsAmong q ys
in_list q [] k = absurd (cc)
in_list q (y ∷ ys) k = ⊎_elim (λ e. inl e) (λ m. inr (in_list q ys m)) (contains_cases q y ys k)

-- ---- each

pub each_into : {A B : Type 0} (f : A → Option B) (xs : List A) (ys : List B) → each f xs ≡ Some ys → (x : A) → IsAmong x xs → (y : B) × (f x ≡ Some y) × IsAmong y ys
each_into f [] ys h x m = absurd m
each_into f (a ∷ xs) ys h x (inl e) = let r = each_step f a xs ys h in (r.0, ap f e ∙ r.1.1, subst (IsAmong r.0) (sym r.1.3) (inl refl))
each_into f (a ∷ xs) ys h x (inr m) = let r = each_step f a xs ys h in let q = each_into f xs r.1.0 r.1.2 x m in (q.0, q.1, subst (IsAmong q.0) (sym r.1.3) (inr q.2))

-- a set that is made of members
pub set_members : (fs : List Data) (xs : Items) → set_from fs ≡ Some (set xs) → members xs ≡ in_order fs
set_members fs xs h = sym (ap members (items_are (items (in_order fs)) xs (built_is (length (in_order fs)) (set (items (in_order fs))) (set xs) h))) ∙ members-items (in_order fs)
  where
    items_are : (a b : Items) → set a ≡ set b → a ≡ b
    items_are a b k = cc

to_ordered : (v : Data) (fs : List Data) → IsAmong v fs → IsAmong v (in_order fs)
to_ordered v fs m = in_among v (in_order fs) (in_order-in v fs (among_in v fs m))

-- ---- sets of functions

in_put : (m : Data) (c : List Data) (cs : List (List Data)) → IsAmong c cs → IsAmong (m ∷ c) (put m cs)
in_put m c [] h = h
in_put m c (d ∷ cs) (inl e) = inl (ap (λ z. m ∷ z) e)
in_put m c (d ∷ cs) (inr h) = inr (in_put m c cs h)

in_spread : (m : Data) (c : List Data) (ms : List Data) (cs : List (List Data)) → IsAmong m ms → IsAmong c cs → IsAmong (m ∷ c) (spread ms cs)
in_spread m c [] cs h g = absurd h
in_spread m c (n ∷ ms) cs (inl e) g = among_left (m ∷ c) (put n cs) (spread ms cs) (subst (λ z. IsAmong (m ∷ c) (put z cs)) e (in_put m c cs g))
in_spread m c (n ∷ ms) cs (inr h) g = among_right (m ∷ c) (put n cs) (spread ms cs) (in_spread m c ms cs h g)

in_choices : (mss : List (List Data)) (vs : List Data) → InChoices mss vs → IsAmong vs (choices mss)
in_choices [] [] h = inl refl
in_choices [] (v ∷ vs) h = absurd h
in_choices (ms ∷ mss) [] h = absurd h
in_choices (ms ∷ mss) (v ∷ vs) h = in_spread v vs ms (choices mss) h.0 (in_choices mss vs h.1)

abbrev second : Data × Data → Data
second p = p.1

-- a choice at each key makes a function that fits, with these keys
paired_fits : (cs : Choices) (vs : List Data) → InChoices (map set_at cs) vs → (keys (paired cs vs) ≡ map key_of cs) × (graph_fits cs (paired cs vs) ≡ true)
paired_fits [] [] h = (refl, refl)
paired_fits [] (v ∷ vs) h = absurd h
paired_fits (c ∷ cs) [] h = absurd h
paired_fits (c ∷ cs) (v ∷ vs) h =
    let r = paired_fits cs vs h.1 in
    (ap (λ ks. c.0 ∷ ks) r.0, (and_both (same_data c.0 c.0) (contains v c.1 && graph_fits cs (paired cs vs))).1 (same_equal c.0 c.0 refl, (and_both (contains v c.1) (graph_fits cs (paired cs vs))).1 (contained v c.1 h.0, r.1)))

-- a function that fits is made by its values
fits_paired : (cs : Choices) (ps : List (Data × Data)) → graph_fits cs ps ≡ true → InChoices (map set_at cs) (map second ps) × (paired cs (map second ps) ≡ ps)
fits_paired [] [] h = (tt, refl)
fits_paired [] (p ∷ ps) h = absurd (cc)
fits_paired (c ∷ cs) [] h = absurd (cc)
fits_paired (c ∷ cs) (p ∷ ps) h =
    let a = (and_both (same_data p.0 c.0) (contains p.1 c.1 && graph_fits cs ps)).0 h in
    let b = (and_both (contains p.1 c.1) (graph_fits cs ps)).0 a.1 in
    let r = fits_paired cs ps b.1 in
    let k = same_of p.0 c.0 a.0 in
    ((in_list p.1 c.1 b.0, r.0), λ i. (sym k i, p.1) ∷ r.1 i)

pub pairs_ordered : (ps : List (Data × Data)) → IsSorted (keys ps) → pairs_in_order ps ≡ ps
pairs_ordered ps s =
    let e : keys (pairs_in_order ps) ≡ keys ps = keys_ordered ps ∙ ordered_is (keys ps) s in
    same_graph (pairs_in_order ps) ps e (subst (λ ks. StandOnce ks) (sym e) (sorted_once (keys ps) s))
    (λ k m. ap (lookup k) (sym (graph-pairs (pairs_in_order ps))) ∙ apply_on k ps)

pub function_is : (ps : List (Data × Data)) (v : Data) → IsSorted (keys ps) → function_from ps ≡ Some v → function (pairs ps) ≡ v
function_is ps v s h = ap (λ qs. function (pairs qs)) (sym (pairs_ordered ps s)) ∙ built_is (length (pairs_in_order ps)) (function (pairs (pairs_in_order ps))) v h

-- what fits is what the set of functions has
pub fits_contains : (cs : Choices) (xs : Items) (v : Data) → IsSorted (map key_of cs) → functions_over cs ≡ Some (set xs) → fits cs v ≡ contains v (members xs)
fits_contains cs xs v s h = made (each (λ vs. function_from (paired cs vs)) (choices (map set_at cs))) refl (made_of (choice_count (map set_at cs)) (λ _. option_and_then set_from (each (λ vs. function_from (paired cs vs)) (choices (map set_at cs)))) (set xs) h)
  where
    made : (o : Option (List Data)) → each (λ vs. function_from (paired cs vs)) (choices (map set_at cs)) ≡ o → option_and_then set_from o ≡ Some (set xs) → fits cs v ≡ contains v (members xs)
    made None e k = absurd (cc)
    made (Some fs) e k = same_test (fits cs v) (contains v (members xs)) (λ f. ap (contains v) (set_members fs xs k) ∙ contained v (in_order fs) (to_ordered v fs (to v f))) (λ c. from (of_ordered v fs (in_list v (in_order fs) (ap (contains v) (sym (set_members fs xs k)) ∙ c))))
      where
        to : (v : Data) → fits cs v ≡ true → IsAmong v fs
        to (function ps) f =
            let r = fits_paired cs (graph ps) f in
            let q = each_into (λ vs. function_from (paired cs vs)) (choices (map set_at cs)) fs e (map second (graph ps)) (in_choices (map set_at cs) (map second (graph ps)) r.0) in
            let sorted : IsSorted (keys (graph ps)) = subst (λ z. IsSorted (keys z)) r.1 (subst IsSorted (sym (paired_fits cs (map second (graph ps)) r.0).0) s) in
            let is = function_is (graph ps) q.0 sorted (ap function_from (sym r.1) ∙ q.1) in
            subst (λ z. IsAmong z fs) (sym is ∙ ap function (pairs_back ps)) q.2
        to (boolean b) f = absurd (cc)
        to (integer z) f = absurd (cc)
        to (string z) f = absurd (cc)
        to (model z) f = absurd (cc)
        to (set z) f = absurd (cc)

        from : IsAmong v fs → fits cs v ≡ true
        from m =
            let q = each_from (λ vs. function_from (paired cs vs)) (choices (map set_at cs)) fs e v m in
            let r = paired_fits cs q.0 (choices_in (map set_at cs) q.0 q.1) in
            let is = function_is (paired cs q.0) v (subst IsSorted (sym r.0) s) q.2 in
            ap (fits cs) (sym is) ∙ ap (graph_fits cs) (graph-pairs (paired cs q.0)) ∙ r.1

-- ---- ranges

in_upward : (a : ℤ) (n k : ℕ) → k < n → IsAmong (integer (a +ℤ pos k)) (upward a n)
in_upward a zero k h = absurd (omega arith)
in_upward a (suc n) zero h = inl (ap integer (+ℤ_idr a))
in_upward a (suc n) (suc k) h = inr (subst (λ z. IsAmong (integer z) (upward (a +ℤ pos 1) n)) (+ℤ_assoc a (pos 1) (pos k) ∙ ap (λ m. a +ℤ pos m) (let e : 1 + k ≡ suc k = omega arith in e)) (in_upward (a +ℤ pos 1) n k (omega arith)))

not_below : (z w : ℤ) → int_lt w z ≡ false → (d : ℕ) × (w ≡ z +ℤ pos d)
not_below z w h = go (int_lt z w) refl
  where
    go : (b : Bool) → int_lt z w ≡ b → (d : ℕ) × (w ≡ z +ℤ pos d)
    go true e = let r = above z w e in (suc r.0, r.1)
    go false e = (0, sym (neither_less z w e h) ∙ sym (+ℤ_idr z))

below_zero : (b : Bool) (m n : ℕ) → b ≡ true → count_to (cond b (negsuc m) (pos n)) ≡ 0
below_zero true m n h = refl
below_zero false m n h = absurd (cc)

no_span : (y z : ℤ) → int_lt z y ≡ true → span y z ≡ 0
no_span (pos zero) (pos a) h = absurd (let k : nat_lt a 0 ≡ true = h in grind (arith, nat_tests))
no_span (pos (suc b)) (pos a) h = below_zero (ltb a (suc b)) (suc b - suc a) (a - suc b) h
no_span (pos zero) (negsuc a) h = below_zero (ltb 0 (suc a)) (suc a - 1) (0 - suc a) (let k : nat_lt 0 (suc a) ≡ true = grind (arith, nat_tests) in k)
no_span (pos (suc b)) (negsuc a) h = refl
no_span (negsuc b) (negsuc a) h = below_zero (ltb (suc b) (suc a)) (suc a - suc (suc b)) (suc b - suc a) (let l : nat_lt b a ≡ true = h in let k : nat_lt (suc b) (suc a) ≡ true = grind (arith, nat_tests) in k)
no_span (negsuc b) (pos a) h = absurd (cc)

pub range_contains : (y z : ℤ) (xs : Items) (v : Data) → range y z ≡ Some (set xs) → within_range y z v ≡ contains v (members xs)
range_contains y z xs v h = same_test (within_range y z v) (contains v (members xs)) (λ f. ap (contains v) is ∙ contained v (in_order (upward y (span y z))) (to_ordered v (upward y (span y z)) (to v f))) (λ c. from (of_ordered v (upward y (span y z)) (in_list v (in_order (upward y (span y z))) (ap (contains v) (sym is) ∙ c))))
  where
    is : members xs ≡ in_order (upward y (span y z))
    is = set_members (upward y (span y z)) xs (made_of (span y z) (λ _. set_from (upward y (span y z))) (set xs) h)

    not_true : (b : Bool) → not b ≡ true → b ≡ false
    not_true true k = absurd (cc)
    not_true false k = refl

    to : (v : Data) → within_range y z v ≡ true → IsAmong v (upward y (span y z))
    to (integer w) f =
        let a = (and_both (not (int_lt w y)) (not (int_lt z w))).0 f in
        let d = not_below y w (not_true (int_lt w y) a.0) in
        let e = not_below w z (not_true (int_lt z w) a.1) in
        let q : z ≡ y +ℤ pos (d.0 + e.0) = e.1 ∙ ap (λ x. x +ℤ pos e.0) d.1 ∙ +ℤ_assoc y (pos d.0) (pos e.0) in
        let n : span y z ≡ suc (d.0 + e.0) = ap (span y) q ∙ span_above y (d.0 + e.0) in
        subst (λ x. IsAmong (integer x) (upward y (span y z))) (sym d.1) (in_upward y (span y z) d.0 (omega (arith, n)))
    to (boolean b) f = absurd (cc)
    to (string b) f = absurd (cc)
    to (model b) f = absurd (cc)
    to (set b) f = absurd (cc)
    to (function b) f = absurd (cc)

    from : IsAmong v (upward y (span y z)) → within_range y z v ≡ true
    from m = let r = upward_in v y (span y z) m in ap (within_range y z) r.2 ∙ at (int_lt z y) refl r.0 r.1
      where
        at : (b : Bool) → int_lt z y ≡ b → (k : ℕ) → k < span y z → within_range y z (integer (y +ℤ pos k)) ≡ true
        at true e k l = absurd (omega (arith, l, no_span y z e))
        at false e k l =
            let d = not_below y z e in
            let n : span y z ≡ suc d.0 = ap (span y) d.1 ∙ span_above y d.0 in
            let low : int_lt (y +ℤ pos k) y ≡ false = ap (λ x. int_lt x y) (+ℤ_comm y (pos k)) ∙ above_self k y in
            let split : z ≡ pos (d.0 - k) +ℤ (y +ℤ pos k) = d.1 ∙ ap (λ m. y +ℤ pos m) (let q : d.0 ≡ k + (d.0 - k) = omega (arith, n, l) in q) ∙ sym (+ℤ_assoc y (pos k) (pos (d.0 - k))) ∙ +ℤ_comm (y +ℤ pos k) (pos (d.0 - k)) in
            let high : int_lt z (y +ℤ pos k) ≡ false = ap (λ x. int_lt x (y +ℤ pos k)) split ∙ above_self (d.0 - k) (y +ℤ pos k) in
            λ i. not (low i) && not (high i)

-- ---- subsets

included_all : (xs ys : List Data) → ((q : Data) → IsAmong q xs → IsAmong q ys) → included xs ys ≡ true
included_all [] ys h = refl
included_all (x ∷ xs) ys h = (and_both (contains x ys) (included xs ys)).1 (contained x ys (h x (inl refl)), included_all xs ys (λ q m. h q (inr m)))

all_included : (xs ys : List Data) → included xs ys ≡ true → (q : Data) → IsAmong q xs → IsAmong q ys
all_included [] ys h q m = absurd m
all_included (x ∷ xs) ys h q (inl e) = subst (λ z. IsAmong z ys) (sym e) (in_list x ys ((and_both (contains x ys) (included xs ys)).0 h).0)
all_included (x ∷ xs) ys h q (inr m) = all_included xs ys ((and_both (contains x ys) (included xs ys)).0 h).1 q m

not_itself : (x : Data) → data_cmp x x ≡ Less → ⊥
not_itself x h = let i = data_itself x in cc

in_sublists : (zs ms : List Data) → IsSorted zs → IsSorted ms → ((q : Data) → IsAmong q zs → IsAmong q ms) → IsAmong zs (sublists ms)
unfolding IsStrictlySortedBy
in_sublists [] [] s t h = inl refl
in_sublists (z ∷ zs) [] s t h = absurd (h z (inl refl))
in_sublists [] (m ∷ ms) s t h = among_right [] (map (λ xs. m ∷ xs) (sublists ms)) (sublists ms) (in_sublists [] ms s t.1 (λ q i. absurd i))
in_sublists (z ∷ zs) (m ∷ ms) s t h = go (h z (inl refl)) (in_sublists zs ms s.1 t.1) (in_sublists (z ∷ zs) ms s t.1)
  where
    rest_in : z ≡ m → (q : Data) → IsAmong q zs → (q ≡ m) ⊎ IsAmong q ms → IsAmong q ms
    rest_in e q i (inl k) = absurd (not_itself z (subst (λ y. data_cmp z y ≡ Less) (k ∙ sym e) (all_at (λ y. data_cmp z y ≡ Less) q zs s.0 i)))
    rest_in e q i (inr k) = k

    all_in : IsAmong z ms → (q : Data) → (q ≡ z) ⊎ IsAmong q zs → (q ≡ m) ⊎ IsAmong q ms → IsAmong q ms
    all_in i q (inl e) k = subst (λ y. IsAmong y ms) (sym e) i
    all_in i q (inr j) (inr k) = k
    all_in i q (inr j) (inl k) = absurd (not_itself m (data_total.trans m z m (all_at (λ y. data_cmp m y ≡ Less) z ms t.0 i) (subst (λ y. data_cmp z y ≡ Less) k (all_at (λ y. data_cmp z y ≡ Less) q zs s.0 j))))

    go : (z ≡ m) ⊎ IsAmong z ms → (((q : Data) → IsAmong q zs → IsAmong q ms) → IsAmong zs (sublists ms)) → (((q : Data) → IsAmong q (z ∷ zs) → IsAmong q ms) → IsAmong (z ∷ zs) (sublists ms)) → IsAmong (z ∷ zs) (map (λ xs. m ∷ xs) (sublists ms) ++ sublists ms)
    go (inl e) f g = among_left (z ∷ zs) (map (λ xs. m ∷ xs) (sublists ms)) (sublists ms) (subst (λ y. IsAmong (y ∷ zs) (map (λ xs. m ∷ xs) (sublists ms))) (sym e) (among_map (λ xs. m ∷ xs) zs (sublists ms) (f (λ q i. rest_in e q i (h q (inr i))))))
    go (inr i) f g = among_right (z ∷ zs) (map (λ xs. m ∷ xs) (sublists ms)) (sublists ms) (g (λ q j. all_in i q j (h q j)))

-- what is a subset is what SUBSET has
pub subset_contains : (ms : List Data) (xs : Items) (v : Data) → IsSorted ms → ((zs : Items) → v ≡ set zs → IsSorted (members zs))
    → where_few (2 ^ length ms) (λ _. option_and_then set_from (each set_from (sublists ms))) ≡ Some (set xs) → is_subset ms v ≡ contains v (members xs)
subset_contains ms xs v s t h = made (each set_from (sublists ms)) refl (made_of (2 ^ length ms) (λ _. option_and_then set_from (each set_from (sublists ms))) (set xs) h)
  where
    made : (o : Option (List Data)) → each set_from (sublists ms) ≡ o → option_and_then set_from o ≡ Some (set xs) → is_subset ms v ≡ contains v (members xs)
    made None e k = absurd (cc)
    made (Some fs) e k = same_test (is_subset ms v) (contains v (members xs)) (λ f. ap (contains v) (set_members fs xs k) ∙ contained v (in_order fs) (to_ordered v fs (to v t f))) (λ c. from (of_ordered v fs (in_list v (in_order fs) (ap (contains v) (sym (set_members fs xs k)) ∙ c))))
      where
        made_set : (l : List Data) (w : Data) → IsSorted l → set_from l ≡ Some w → set (items l) ≡ w
        made_set l w sl g = ap (λ ys. set (items ys)) (sym (ordered_is l sl)) ∙ built_is (length (in_order l)) (set (items (in_order l))) w g

        items-members : (zs : Items) → items (members zs) ≡ zs
        items-members no_items = refl
        items-members (item z zs) = ap (item z) (items-members zs)

        to : (v : Data) → ((zs : Items) → v ≡ set zs → IsSorted (members zs)) → is_subset ms v ≡ true → IsAmong v fs
        to (set zs) t f =
            let sz = t zs refl in
            let q = each_into set_from (sublists ms) fs e (members zs) (in_sublists (members zs) ms sz s (all_included (members zs) ms f)) in
            subst (λ w. IsAmong w fs) (sym (made_set (members zs) q.0 sz q.1) ∙ ap set (items-members zs)) q.2
        to (boolean b) t f = absurd (cc)
        to (integer b) t f = absurd (cc)
        to (string b) t f = absurd (cc)
        to (model b) t f = absurd (cc)
        to (function b) t f = absurd (cc)

        from : IsAmong v fs → is_subset ms v ≡ true
        from m =
            let q = each_from set_from (sublists ms) fs e v m in
            let is = built_is (length (in_order q.0)) (set (items (in_order q.0))) v q.2 in
            ap (is_subset ms) (sym is) ∙ ap (λ ys. included ys ms) (members-items (in_order q.0)) ∙ included_all (in_order q.0) ms (λ z i. sublist_in q.0 ms q.1 z (of_ordered z q.0 i))
