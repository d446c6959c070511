-- Each operator gives values within limits of such values.
use Rattle.std.proofs.Common.{◌≡◌, ◌⊎◌, ℕ, suc, ◌+◌, ◌≤◌, ◌^◌, ap, arith, ℤ, pos, negsuc, ◌+ℤ◌, ◌-ℤ◌, int_lt, Bool, true, false, not, List, [], ◌∷◌, ◌++◌, length, map, Option, Some, None, refl, sym, ◌∙◌, subst, option_and_then, inl, inr, ⊎_elim}
use Rattle.std.specs.Prelude.{if◌then◌else◌, filter, cond, IsTrue, nat_lt}
use Rattle.std.proofs.Math.IntN.{+ℤ_comm, -ℤ-+ℤ_cancel}
use Rattle.std.proofs.lemmas.Bool.Decides.{nat_tests}
use Rattle.std.specs.Int.{int_div_euclid, int_rem_euclid}
use Rattle.std.proofs.lemmas.Option.{same_Some}
use Rattle.pgo_base.specs.Data.{Data, boolean, integer, string, model, set, function, Items, no_items, item, items, members, Pairs, no_pairs, pair, pairs, graph, keys, graph-pairs, members-items}
use Rattle.pgo_base.specs.Pairs.{pairs_in_order}
use Rattle.pgo_base.specs.Sets.{in_order, IsSorted, sorted-in_order}
use Rattle.pgo_model.specs.Operators.{both, each, contains, members_of, graph_of, first_of, set_from, function_from, function_of, from_truth, in_64, fits_i64, on_integers, lookup, same_data, sequence, sequence_at, joined, sublists, apply, upward, where_few, union, intersect, minus, flatten, power, single, merge, domain, range, divide, modulo, on_divisor, subset, included, span, count_to, most_members}
use Rattle.pgo_bound.specs.Among.{IsAmong, among_append, from_map}
use Rattle.pgo_bound.specs.Keyed.{keys_ordered}
use Rattle.pgo_values.specs.Within.{IsWithin, AreWithin, PairsWithin, EachWithin, Within}
use Rattle.pgo_values.proofs.Fitting.{low_test}
use Rattle.pgo_values.proofs.Lists.{none_is, built_is, built_few, both_parts, two_integers, is_set, each_from, of_ordered, made_of, sublist_in, length_ordered, ordered_among, sequence_keys, upward_in}
use Rattle.pgo_values.specs.Limits.{Limits}

-- not too many are at most so many
at_most : (n : ℕ) → nat_lt most_members n ≡ false → n ≤ most_members
at_most n h = let l : n ≤ 65536 = grind (arith, nat_tests) in l

module _ (limits : Limits) where
  -- both parts of each pair
  abbrev pub EachPair : List (Data × Data) → Type 0
  EachPair ps = (p : Data × Data) → IsAmong p ps → IsWithin limits p.0 × IsWithin limits p.1

  items_ordered : (xs : List Data) → EachWithin limits xs → AreWithin limits (items xs)
  items_ordered [] h = tt
  items_ordered (x ∷ xs) h = (h x (inl refl), items_ordered xs (λ y m. h y (inr m)))

  pub ordered_items : (xs : Items) → AreWithin limits xs → EachWithin limits (members xs)
  ordered_items no_items h y m = absurd m
  ordered_items (item x xs) h y (inl e) = subst (IsWithin limits) (sym e) h.0
  ordered_items (item x xs) h y (inr m) = ordered_items xs h.1 y m

  pub pairs_ordered : (ps : List (Data × Data)) → EachPair ps → PairsWithin limits (pairs ps)
  pairs_ordered [] h = tt
  pairs_ordered (p ∷ ps) h = let a = h p (inl refl) in (a.0, a.1, pairs_ordered ps (λ q m. h q (inr m)))

  pub ordered_pairs : (ps : Pairs) → PairsWithin limits ps → EachPair (graph ps)
  ordered_pairs no_pairs h q m = absurd m
  ordered_pairs (pair k v ps) h q (inl e) = subst (λ z. IsWithin limits z.0 × IsWithin limits z.1) (sym e) (h.0, h.1)
  ordered_pairs (pair k v ps) h q (inr m) = ordered_pairs ps h.2 q m

  pub none_within : Within limits None
  none_within v h = absurd (none_is v h)

  pub some_within : (w : Data) → IsWithin limits w → Within limits (Some w)
  some_within w o v h = subst (IsWithin limits) (same_Some w v h) o

  pub then_within : {A : Type 0} (o : Option A) (f : A → Option Data) → ((a : A) → o ≡ Some a → Within limits (f a)) → Within limits (option_and_then f o)
  then_within None f h v e = absurd (cc)
  then_within (Some a) f h v e = h a refl v e

  pub both_within : {A B : Type 0} (f : A → B → Option Data) (a : Option A) (b : Option B) → ((x : A) (y : B) → a ≡ Some x → b ≡ Some y → Within limits (f x y)) → Within limits (both f a b)
  both_within f a b h v e = let p = both_parts f a b v e in h p.0 p.1.0 p.1.1 p.1.2 v p.1.3

  pub truth_within : (p : Option Bool) → Within limits (from_truth p)
  truth_within None v h = absurd (none_is v h)
  truth_within (Some b) v h = subst (IsWithin limits) (same_Some (boolean b) v h) tt

  pub in_64_within : (z : ℤ) → Within limits (in_64 z)
  in_64_within z = go (fits_i64 z) refl
    where
      go : (b : Bool) → fits_i64 z ≡ b → Within limits (if b then Some (integer z) else None)
      go true e = some_within (integer z) (limits.numbers_fit z e)
      go false e = none_within

  pub integers_within : (f : ℤ → ℤ → Option Data) → (a b : Data) → IsWithin limits a → IsWithin limits b → ((y z : ℤ) → IsTrue (limits.number y) → IsTrue (limits.number z) → Within limits (f y z)) → Within limits (on_integers f a b)
  integers_within f a b o p h v e =
      let r = two_integers f a b v e in h r.0 r.1 (subst (IsWithin limits) r.2 o) (subst (IsWithin limits) r.3 p) v ((λ i. on_integers f (sym r.2 i) (sym r.3 i)) ∙ e)

  -- the same, where the results are values whatever the integers are
  pub any_within : (f : ℤ → ℤ → Option Data) → ((y z : ℤ) → Within limits (f y z)) → (a b : Data) → Within limits (on_integers f a b)
  any_within f h a b v e = let r = two_integers f a b v e in h r.0 r.1 v ((λ i. on_integers f (sym r.2 i) (sym r.3 i)) ∙ e)

  pub bounded_within : (n : ℕ) (make : Unit {0} → Option Data) → Within limits (make tt) → Within limits (where_few n make)
  bounded_within n make h v e = h v (made_of n make v e)

  pub set_within : (xs : List Data) → EachWithin limits xs → Within limits (set_from xs)
  set_within xs h v e =
      let few = limits.few_members (length (in_order xs)) (at_most (length (in_order xs)) (built_few (length (in_order xs)) (set (items (in_order xs))) v e)) in
      subst (IsWithin limits) (built_is (length (in_order xs)) (set (items (in_order xs))) v e) (
        items_ordered (in_order xs) (λ y m. h y (of_ordered y xs m)),
        subst IsSorted (sym (members-items (in_order xs))) (sorted-in_order xs),
        subst (λ ms. IsTrue (limits.members (length ms))) (sym (members-items (in_order xs))) few,
      )

  -- a function whose keys are in order
  pub graph_within : (ps : List (Data × Data)) → EachPair ps → IsSorted (keys ps) → Within limits (function_of ps)
  graph_within ps h s v e = subst (IsWithin limits) (built_is (length ps) (function (pairs ps)) v e) (pairs_ordered ps h, subst (λ qs. IsSorted (keys qs)) (sym (graph-pairs ps)) s, subst (λ qs. IsTrue (limits.pairs (length qs))) (sym (graph-pairs ps)) (limits.few_pairs (length ps) (at_most (length ps) (built_few (length ps) (function (pairs ps)) v e))))

  -- the pairs are looked at where their keys are few
  pub few_within : (ps : List (Data × Data)) → (nat_lt most_members (length (in_order (keys ps))) ≡ false → EachPair ps) → Within limits (function_from ps)
  few_within ps h v e =
      let few = built_few (length (pairs_in_order ps)) (function (pairs (pairs_in_order ps))) v e in
      graph_within (pairs_in_order ps) (λ q m. h (ap (nat_lt most_members) (sym (length_ordered ps)) ∙ few) q (ordered_among q ps m)) (subst IsSorted (sym (keys_ordered ps)) (sorted-in_order (keys ps))) v e

  pub function_within : (ps : List (Data × Data)) → EachPair ps → Within limits (function_from ps)
  function_within ps h = few_within ps (λ f. h)

  -- members and pairs of such values
  pub members_all : (o : Option Data) (ms : List Data) → Within limits o → option_and_then members_of o ≡ Some ms → EachWithin limits ms
  members_all None ms h e = absurd (cc)
  members_all (Some d) ms h e = let r = is_set d ms e in subst (EachWithin limits) r.2 (ordered_items r.0 (subst (IsWithin limits) r.1 (h d refl)).0)

  pub member_all : (d : Data) (ms : List Data) → IsWithin limits d → members_of d ≡ Some ms → EachWithin limits ms
  member_all d ms o e = members_all (Some d) ms (some_within d o) e

  pub graph_all : (d : Data) (ps : List (Data × Data)) → IsWithin limits d → graph_of d ≡ Some ps → EachPair ps × IsSorted (keys ps)
  graph_all (function qs) ps o e = subst (λ z. EachPair z × IsSorted (keys z)) (same_Some (graph qs) ps e) (ordered_pairs qs o.0, o.1)
  graph_all (boolean b) ps o e = absurd (cc)
  graph_all (integer b) ps o e = absurd (cc)
  graph_all (string b) ps o e = absurd (cc)
  graph_all (model b) ps o e = absurd (cc)
  graph_all (set b) ps o e = absurd (cc)

  pub append_all : (xs ys : List Data) → EachWithin limits xs → EachWithin limits ys → EachWithin limits (xs ++ ys)
  append_all xs ys h g x m = ⊎_elim (λ a. h x a) (λ b. g x b) (among_append x xs ys m)

  pub append_pairs : (xs ys : List (Data × Data)) → EachPair xs → EachPair ys → EachPair (xs ++ ys)
  append_pairs xs ys h g p m = ⊎_elim (λ a. h p a) (λ b. g p b) (among_append p xs ys m)

  pub filter_all : (p : Data → Bool) (xs : List Data) → EachWithin limits xs → EachWithin limits (filter p xs)
  filter_all p [] h = h
  filter_all p (x ∷ xs) h = go (p x) (filter_all p xs (λ y m. h y (inr m)))
    where
      go : (b : Bool) → EachWithin limits (filter p xs) → EachWithin limits (cond b (x ∷ filter p xs) (filter p xs))
      go true r y (inl e) = subst (IsWithin limits) (sym e) (h x (inl refl))
      go true r y (inr m) = r y m
      go false r y m = r y m

  lookup_all : (k v : Data) (ps : List (Data × Data)) → EachPair ps → lookup k ps ≡ Some v → IsWithin limits v
  lookup_all k v [] h e = absurd (cc)
  lookup_all k v (p ∷ ps) h e = go (same_data k p.0) e (lookup_all k v ps (λ q m. h q (inr m)))
    where
      go : (b : Bool) → (if b then Some p.1 else lookup k ps) ≡ Some v → (lookup k ps ≡ Some v → IsWithin limits v) → IsWithin limits v
      go true g r = subst (IsWithin limits) (same_Some p.1 v g) (h p (inl refl)).1
      go false g r = r g

  pub lookup_within : (k : Data) (ps : List (Data × Data)) → EachPair ps → Within limits (lookup k ps)
  lookup_within k ps h v e = lookup_all k v ps h e

  pub apply_within : (f i : Data) → IsWithin limits f → Within limits (apply f i)
  apply_within f i o = then_within (graph_of f) (lookup i) (λ ps e v g. lookup_all i v ps (graph_all f ps o e).0 g)

  -- the pairs of a sequence, where their keys are few
  sequence_pairs : (n : ℕ) (xs : List Data) → n + length xs ≤ 65537 → EachWithin limits xs → EachPair (sequence_at n xs)
  sequence_pairs n [] l h p m = absurd m
  sequence_pairs n (x ∷ xs) l h p (inl e) =
      subst (λ z. IsWithin limits z.0 × IsWithin limits z.1) (sym e) (limits.numbers_fit (pos n) (low_test n (let k : n + suc (length xs) ≤ 65537 = l in omega (arith, k))), h x (inl refl))
  sequence_pairs n (x ∷ xs) l h p (inr m) = sequence_pairs (suc n) xs (let k : n + suc (length xs) ≤ 65537 = l in omega (arith, k)) (λ y k. h y (inr k)) p m

  pub few_pairs : (xs : List Data) → nat_lt most_members (length (in_order (keys (sequence_at 1 xs)))) ≡ false → EachWithin limits xs → EachPair (sequence_at 1 xs)
  few_pairs xs few h =
      let f : nat_lt most_members (length xs) ≡ false = ap (nat_lt most_members) (sym (sequence_keys xs)) ∙ few in
      sequence_pairs 1 xs (let l : length xs ≤ 65536 = grind (arith, nat_tests) in omega (arith, l)) h

  pub sequence_within : (xs : List Data) → EachWithin limits xs → Within limits (sequence xs)
  sequence_within xs h = few_within (sequence_at 1 xs) (λ few. few_pairs xs few h)

  -- ---- operators before one operand

  -- each of the integers from y to z
  number_between : (y z : ℤ) → IsTrue (limits.number y) → IsTrue (limits.number z) → (v : Data) → IsAmong v (upward y (span y z)) → (x : ℤ) × (v ≡ integer x) × IsTrue (limits.number x)
  number_between y z h g v m = go (z -ℤ y) refl m
    where
      go : (d : ℤ) → z -ℤ y ≡ d → IsAmong v (upward y (count_to d)) → (x : ℤ) × (v ≡ integer x) × IsTrue (limits.number x)
      go (pos d) e m =
          let r = upward_in v y (suc d) m in
          let there : z ≡ y +ℤ pos d = sym (-ℤ-+ℤ_cancel z y) ∙ ap (λ w. w +ℤ y) e ∙ +ℤ_comm (pos d) y in
          (y +ℤ pos r.0, r.2, limits.between y r.0 d (omega (arith, r.1)) h (subst (λ w. IsTrue (limits.number w)) there g))
      go (negsuc d) e m = absurd m

  pub range_within : (a b : Data) → IsWithin limits a → IsWithin limits b → Within limits (on_integers range a b)
  range_within a b o p =
      integers_within range a b o p (λ y z f g.
      bounded_within (span y z) (λ _. set_from (upward y (span y z)))
      (set_within (upward y (span y z)) (λ x m. let r = number_between y z f g x m in subst (IsWithin limits) (sym r.1) r.2)))

  pub each_all : {A : Type 0} (f : A → Option Data) (xs : List A) (ys : List Data) → ((x : A) → IsAmong x xs → Within limits (f x)) → each f xs ≡ Some ys → EachWithin limits ys
  each_all f xs ys h e y m = let r = each_from f xs ys e y m in h r.0 r.1 y r.2

  power_of_within : (ms : List Data) → EachWithin limits ms → Within limits (where_few (2 ^ length ms) (λ _. option_and_then set_from (each set_from (sublists ms))))
  power_of_within ms h =
      bounded_within (2 ^ length ms) (λ _. option_and_then set_from (each set_from (sublists ms)))
      (then_within (each set_from (sublists ms)) set_from (λ fs k. set_within fs (each_all set_from (sublists ms) fs (λ l m. set_within l (λ x i. h x (sublist_in l ms m x i))) k)))

  pub power_within : (a : Data) → IsWithin limits a → Within limits (power a)
  power_within a o = then_within (members_of a) (λ ms. where_few (2 ^ length ms) (λ _. option_and_then set_from (each set_from (sublists ms)))) (λ ms g. power_of_within ms (member_all a ms o g))

  joined_all : (mss : List (List Data)) → ((ms : List Data) → IsAmong ms mss → EachWithin limits ms) → EachWithin limits (joined mss)
  joined_all [] h x m = absurd m
  joined_all (ms ∷ mss) h x m = ⊎_elim (λ a. h ms (inl refl) x a) (λ b. joined_all mss (λ ns k. h ns (inr k)) x b) (among_append x ms (joined mss) m)

  pub flatten_within : (a : Data) → IsWithin limits a → Within limits (flatten a)
  flatten_within a o =
      then_within (members_of a) (λ ms. option_and_then (λ mss. set_from (joined mss)) (each members_of ms)) (λ ms g. then_within (each members_of ms) (λ mss. set_from (joined mss)) (λ mss k. set_within (joined mss) (joined_all mss (λ ns m. let r = each_from members_of ms mss k ns m in member_all r.0 ns (member_all a ms o g r.0 r.1) r.2))))

  pub domain_within : (a : Data) → IsWithin limits a → Within limits (domain a)
  domain_within a o =
      then_within (graph_of a) (λ ps. set_from (map first_of ps)) (λ ps g. set_within (map first_of ps) (λ x m. let r = from_map first_of x ps m in subst (IsWithin limits) (sym r.2) ((graph_all a ps o g).0 r.0 r.1).0))

  -- ---- operators on two

  pub union_within : (a b : Data) → IsWithin limits a → IsWithin limits b → Within limits (union a b)
  union_within a b o p = both_within (λ ms ns. set_from (ms ++ ns)) (members_of a) (members_of b) (λ ms ns e g. set_within (ms ++ ns) (append_all ms ns (member_all a ms o e) (member_all b ns p g)))

  pub intersect_within : (a b : Data) → IsWithin limits a → Within limits (intersect a b)
  intersect_within a b o = both_within (λ ms ns. set_from (filter (λ m. contains m ns) ms)) (members_of a) (members_of b) (λ ms ns e g. set_within (filter (λ m. contains m ns) ms) (filter_all (λ m. contains m ns) ms (member_all a ms o e)))

  pub minus_within : (a b : Data) → IsWithin limits a → Within limits (minus a b)
  minus_within a b o = both_within (λ ms ns. set_from (filter (λ m. not (contains m ns)) ms)) (members_of a) (members_of b) (λ ms ns e g. set_within (filter (λ m. not (contains m ns)) ms) (filter_all (λ m. not (contains m ns)) ms (member_all a ms o e)))

  pub merge_within : (a b : Data) → IsWithin limits a → IsWithin limits b → Within limits (merge a b)
  merge_within a b o p = both_within (λ ps qs. function_from (ps ++ qs)) (graph_of a) (graph_of b) (λ ps qs e g. function_within (ps ++ qs) (append_pairs ps qs (graph_all a ps o e).0 (graph_all b qs p g).0))

  pub single_within : (k v : Data) → IsWithin limits k → IsWithin limits v → Within limits (single k v)
  single_within k v o p = function_within ((k, v) ∷ []) (λ q m. two q m)
    where
      two : (q : Data × Data) → (q ≡ (k, v)) ⊎ ⊥ → IsWithin limits q.0 × IsWithin limits q.1
      two q (inl e) = subst (λ z. IsWithin limits z.0 × IsWithin limits z.1) (sym e) (o, p)
      two q (inr m) = absurd m

  divisor_within : (f : ℤ → ℤ → ℤ) (y z : ℤ) → (int_lt z (pos 1) ≡ false → IsTrue (limits.number (f y z))) → Within limits (on_divisor f y z)
  divisor_within f y z h = go (int_lt z (pos 1)) refl
    where
      go : (b : Bool) → int_lt z (pos 1) ≡ b → Within limits (if b then None else Some (integer (f y z)))
      go true e = none_within
      go false e = some_within (integer (f y z)) (h e)

  pub divide_within : (a b : Data) → IsWithin limits a → IsWithin limits b → Within limits (divide a b)
  divide_within a b o p = integers_within (on_divisor int_div_euclid) a b o p (λ y z f g. divisor_within int_div_euclid y z (λ l. limits.quotients y z l f))

  pub modulo_within : (a b : Data) → IsWithin limits a → IsWithin limits b → Within limits (modulo a b)
  modulo_within a b o p = integers_within (on_divisor int_rem_euclid) a b o p (λ y z f g. divisor_within int_rem_euclid y z (λ l. limits.remainders y z l g))

  pub subset_within : (a b : Data) → Within limits (subset a b)
  subset_within a b = both_within (λ ms ns. Some (boolean (included ms ns))) (members_of a) (members_of b) (λ ms ns e g. some_within (boolean (included ms ns)) tt)
