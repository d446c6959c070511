-- What an expression has as its value is within limits, where it sees such values alone and its literals are within them.
use Rattle.std.proofs.Common.{◌≡◌, ◌⊎◌, ℕ, zero, suc, ◌+◌, arith, ℤ, pos, ◌+ℤ◌, ◌-ℤ◌, ◌*ℤ◌, int_lt, Bool, true, false, not, List, [], ◌∷◌, ◌++◌, length, map, take, drop, Option, Some, None, refl, sym, ap, subst, option_and_then, option_map, inl, inr}
use Rattle.std.specs.Prelude.{if◌then◌else◌, nat_abs, nat_lt, IsTrue}
use Rattle.std.specs.List.{AllByRecursion}
use Rattle.std.specs.List.Sorted.{IsStrictlySortedBy}
use Rattle.std.proofs.lemmas.Option.{same_Some}
use Rattle.pgo_base.specs.declared.expr.Prefix.{Prefix}
use Rattle.pgo_base.specs.declared.expr.Infix.{Infix}
use Rattle.pgo_base.specs.declared.expr.Prefix.TheVariants as prefixs
use Rattle.pgo_base.specs.declared.expr.Infix.TheVariants as infixs
use Rattle.pgo_base.specs.declared.expr.Word.{Word}
use Rattle.pgo_base.specs.declared.expr.Word.TheVariants as words
use Rattle.pgo_base.specs.Data.{Data, boolean, integer, string, set, items, members, keys}
use Rattle.pgo_base.specs.Lookup.{Name, Names, same_name, find}
use Rattle.pgo_base.specs.Sets.{IsSorted, in_order}
use Rattle.pgo_base.specs.Pairs.{pairs_in_order}
use Rattle.pgo_base.specs.Tree.{Tree, name, primed, number, text, truth, at, word, unary, binary, product, cond_of, case_of, case_other, let_in, quantified, choose, tuple, set_of, filter_of, image, fun_of, fun_set, record_of, record_set, except, index, field, call, unchanged, Trees, no_trees, more_trees, NamedTrees, no_named, more_named, TreePairs, no_arms, more_arms, BoundTrees, no_bound, more_bound, PathTrees, no_paths, more_paths}
use Rattle.pgo_model.specs.FunctionSets.{Choices, paired, functions_over, choice_count, choices_of, product_choices, function_choices, record_choices}
use Rattle.pgo_model.specs.Operators.{both, each, members_of, graph_of, lookup, same_data, set_from, function_from, function_of, from_truth, truth_of, in_64, most_members, on_integers, sequence, sequence_at, choices, first3, least3, filter3, keep3, replace_at, put_at, apply, union, intersect, minus, flatten, power, single, merge, domain, range, divide, modulo, subset, or3, not3, and3, iff3, is_member, cardinality, span}
use Rattle.pgo_model.specs.Sequences.{elements_from, elements, len, first_element, head, later_elements, tail, append, concat, slice, slice_of, sub_seq, assert, print, on_one, on_two, on_three, operators, assert_name}
use Rattle.pgo_model.specs.Val.{Scope, Sem, sem, values_of, asserted, let_scope, case_value, ranges, fields, updated, call_def, or_else, value_of_name, value_of_call, with_name, with_names, with_part, functions_sem, word_sem, unary_sem, binary_sem, decide, quantify, function_over, index_of, name_values, names_over, sets_over, over_each, arithmetic, comparison, same_variables}
use Rattle.pgo_bound.specs.Among.{IsAmong, from_map}
use Rattle.pgo_bound.specs.Lookups.{same_of}
use Rattle.pgo_values.specs.Within.{IsWithin, EachWithin, Within, NamesWithin, ScopeWithin}
use Rattle.pgo_values.specs.Literals.{LiteralsWithin, TreesWithin, NamedTreesWithin, ArmsWithin, BoundWithin, PathsWithin}
use Rattle.pgo_values.proofs.Lists.{both_parts, each_from, is_set, InChoices, choices_in, key_of, set_at, choices_keys, ordered_among}
use Rattle.pgo_values.proofs.Operators.{EachPair, any_within, none_within, some_within, then_within, both_within, truth_within, in_64_within, bounded_within, few_within, few_pairs, set_within, function_within, graph_within, members_all, member_all, graph_all, append_all, apply_within, lookup_within, sequence_within, range_within, power_within, flatten_within, domain_within, union_within, intersect_within, minus_within, merge_within, single_within, divide_within, modulo_within, subset_within, each_all}
use Rattle.pgo_values.specs.Limits.{Limits}

pub replaced_keys : (k v : Data) (ps : List (Data × Data)) → keys (replace_at k v ps) ≡ keys ps
replaced_keys k v [] = refl
replaced_keys k v (p ∷ ps) = go (same_data k p.0) refl (replaced_keys k v ps)
  where
    go : (b : Bool) → same_data k p.0 ≡ b → keys (replace_at k v ps) ≡ keys ps → keys (if b then (k, v) ∷ ps else p ∷ replace_at k v ps) ≡ p.0 ∷ keys ps
    go true e r = ap (λ z. z ∷ keys ps) (same_of k p.0 e)
    go false e r = ap (λ z. p.0 ∷ z) r

module _ (limits : Limits) where
  -- ---- sequences

  take_all : (n : ℕ) (xs : List Data) → EachWithin limits xs → EachWithin limits (take n xs)
  take_all zero xs h x m = absurd m
  take_all (suc n) [] h x m = absurd m
  take_all (suc n) (y ∷ ys) h x (inl e) = h x (inl e)
  take_all (suc n) (y ∷ ys) h x (inr m) = take_all n ys (λ z k. h z (inr k)) x m

  drop_all : (n : ℕ) (xs : List Data) → EachWithin limits xs → EachWithin limits (drop n xs)
  drop_all zero xs h = h
  drop_all (suc n) [] h = h
  drop_all (suc n) (y ∷ ys) h = drop_all n ys (λ z k. h z (inr k))

  elements_from_all : (n : ℕ) (ps : List (Data × Data)) (xs : List Data) → EachPair limits ps → elements_from n ps ≡ Some xs → EachWithin limits xs
  elements_from_all n [] xs h e = subst (EachWithin limits) (same_Some [] xs e) (λ x m. absurd m)
  elements_from_all n (p ∷ ps) xs h e = go (same_data p.0 (integer (pos n))) e (λ vs g. elements_from_all (suc n) ps vs (λ q j. h q (inr j)) g)
    where
      two : (vs : List Data) → EachWithin limits vs → (x : Data) → (x ≡ p.1) ⊎ IsAmong x vs → IsWithin limits x
      two vs r x (inl q) = subst (IsWithin limits) (sym q) (h p (inl refl)).1
      two vs r x (inr i) = r x i

      more : (o : Option (List Data)) → elements_from (suc n) ps ≡ o → option_map (λ vs. p.1 ∷ vs) o ≡ Some xs → ((vs : List Data) → elements_from (suc n) ps ≡ Some vs → EachWithin limits vs) → EachWithin limits xs
      more None g k r = absurd (cc)
      more (Some vs) g k r = subst (EachWithin limits) (same_Some (p.1 ∷ vs) xs k) (two vs (r vs g))

      go : (b : Bool) → (if b then option_map (λ vs. p.1 ∷ vs) (elements_from (suc n) ps) else None) ≡ Some xs → ((vs : List Data) → elements_from (suc n) ps ≡ Some vs → EachWithin limits vs) → EachWithin limits xs
      go true k r = more (elements_from (suc n) ps) refl k r
      go false k r = absurd (cc)

  elements_all : (a : Data) (xs : List Data) → IsWithin limits a → elements a ≡ Some xs → EachWithin limits xs
  elements_all a xs o e = go (graph_of a) refl e
    where
      go : (g : Option (List (Data × Data))) → graph_of a ≡ g → option_and_then (elements_from 1) g ≡ Some xs → EachWithin limits xs
      go None q k = absurd (cc)
      go (Some ps) q k = elements_from_all 1 ps xs (graph_all limits a ps o q).0 k

  map_within : {A : Type 0} (o : Option A) (f : A → Data) → ((a : A) → o ≡ Some a → IsWithin limits (f a)) → Within limits (option_map f o)
  map_within None f h = none_within limits
  map_within (Some a) f h = some_within limits (f a) (h a refl)

  one_all : (x : Data) → IsWithin limits x → EachWithin limits (x ∷ [])
  one_all x o y (inl e) = subst (IsWithin limits) (sym e) o
  one_all x o y (inr m) = absurd m

  more_all : (x : Data) (xs : List Data) → IsWithin limits x → EachWithin limits xs → EachWithin limits (x ∷ xs)
  more_all x xs o h y (inl e) = subst (IsWithin limits) (sym e) o
  more_all x xs o h y (inr m) = h y m

  -- the last key of a sequence is the number of its elements
  elements_last : (n : ℕ) (ps : List (Data × Data)) (xs : List Data) → IsTrue (limits.number (pos n)) → EachPair limits ps → elements_from (suc n) ps ≡ Some xs → IsTrue (limits.number (pos (n + length xs)))
  elements_last n [] xs l h e = subst (λ ys. IsTrue (limits.number (pos (n + length ys)))) (same_Some [] xs e) (subst (λ m. IsTrue (limits.number (pos m))) (let z : n ≡ n + 0 = omega arith in z) l)
  elements_last n (p ∷ ps) xs l h e = go (same_data p.0 (integer (pos (suc n)))) refl e (λ k vs g. elements_last (suc n) ps vs k (λ q j. h q (inr j)) g)
    where
      more : (o : Option (List Data)) → elements_from (suc (suc n)) ps ≡ o → option_map (λ vs. p.1 ∷ vs) o ≡ Some xs → ((vs : List Data) → elements_from (suc (suc n)) ps ≡ Some vs → IsTrue (limits.number (pos (suc n + length vs)))) → IsTrue (limits.number (pos (n + length xs)))
      more None g k r = absurd (cc)
      more (Some vs) g k r =
          subst (λ ys. IsTrue (limits.number (pos (n + length ys)))) (same_Some (p.1 ∷ vs) xs k) (subst (λ m. IsTrue (limits.number (pos m))) (let z : suc n + length vs ≡ n + suc (length vs) = omega arith in z) (r vs g))

      go : (b : Bool) → same_data p.0 (integer (pos (suc n))) ≡ b → (if b then option_map (λ vs. p.1 ∷ vs) (elements_from (suc (suc n)) ps) else None) ≡ Some xs
          → (IsTrue (limits.number (pos (suc n))) → (vs : List Data) → elements_from (suc (suc n)) ps ≡ Some vs → IsTrue (limits.number (pos (suc n + length vs)))) → IsTrue (limits.number (pos (n + length xs)))
      go true q k r = more (elements_from (suc (suc n)) ps) refl k (r (subst (IsWithin limits) (same_of p.0 (integer (pos (suc n))) q) (h p (inl refl)).0))
      go false q k r = absurd (cc)

  length_within : (a : Data) (xs : List Data) → IsWithin limits a → elements a ≡ Some xs → IsTrue (limits.number (pos (length xs)))
  length_within a xs o e = go (graph_of a) refl e
    where
      go : (g : Option (List (Data × Data))) → graph_of a ≡ g → option_and_then (elements_from 1) g ≡ Some xs → IsTrue (limits.number (pos (length xs)))
      go None q k = absurd (cc)
      go (Some ps) q k = subst (λ m. IsTrue (limits.number (pos m))) (let z : 0 + length xs ≡ length xs = omega arith in z) (elements_last 0 ps xs (limits.numbers_fit (pos 0) refl) (graph_all limits a ps o q).0 k)

  len_within : (a : Data) → IsWithin limits a → Within limits (len a)
  len_within a o = map_within (elements a) (λ xs. integer (pos (length xs))) (λ xs e. length_within a xs o e)

  first_within : (xs : List Data) → EachWithin limits xs → Within limits (first_element xs)
  first_within [] h = none_within limits
  first_within (x ∷ xs) h = some_within limits x (h x (inl refl))

  later_within : (xs : List Data) → EachWithin limits xs → Within limits (later_elements xs)
  later_within [] h = none_within limits
  later_within (x ∷ xs) h = sequence_within limits xs (λ y m. h y (inr m))

  head_within : (a : Data) → IsWithin limits a → Within limits (head a)
  head_within a o = then_within limits (elements a) first_element (λ xs e. first_within xs (elements_all a xs o e))

  tail_within : (a : Data) → IsWithin limits a → Within limits (tail a)
  tail_within a o = then_within limits (elements a) later_elements (λ xs e. later_within xs (elements_all a xs o e))

  append_within : (a x : Data) → IsWithin limits a → IsWithin limits x → Within limits (append a x)
  append_within a x o p = then_within limits (elements a) (λ xs. sequence (xs ++ x ∷ [])) (λ xs e. sequence_within limits (xs ++ x ∷ []) (append_all limits xs (x ∷ []) (elements_all a xs o e) (one_all x p)))

  concat_within : (a b : Data) → IsWithin limits a → IsWithin limits b → Within limits (concat a b)
  concat_within a b o p = both_within limits (λ xs ys. sequence (xs ++ ys)) (elements a) (elements b) (λ xs ys e g. sequence_within limits (xs ++ ys) (append_all limits xs ys (elements_all a xs o e) (elements_all b ys p g)))

  slice_within : (xs : List Data) (m n : ℤ) → EachWithin limits xs → Within limits (slice xs m n)
  slice_within xs m n h = go (int_lt n m) (int_lt m (pos 1)) (int_lt (pos (length xs)) n)
    where
      go : (a b c : Bool) → Within limits (if a then sequence [] else if b then None else if c then None else sequence (take (span m n) (drop (nat_abs (m -ℤ pos 1)) xs)))
      go true b c = sequence_within limits [] (λ x i. absurd i)
      go false true c = none_within limits
      go false false true = none_within limits
      go false false false = sequence_within limits (take (span m n) (drop (nat_abs (m -ℤ pos 1)) xs)) (take_all (span m n) (drop (nat_abs (m -ℤ pos 1)) xs) (drop_all (nat_abs (m -ℤ pos 1)) xs h))

  slice_of_within : (xs : List Data) (m n : Data) → EachWithin limits xs → Within limits (slice_of xs m n)
  slice_of_within xs (integer m) (integer n) h = slice_within xs m n h
  slice_of_within xs _ _ h = none_within limits

  sub_seq_within : (a m n : Data) → IsWithin limits a → Within limits (sub_seq a m n)
  sub_seq_within a m n o = then_within limits (elements a) (λ xs. slice_of xs m n) (λ xs e. slice_of_within xs m n (elements_all a xs o e))

  cardinality_within : (a : Data) → IsWithin limits a → Within limits (cardinality a)
  cardinality_within a o =
      map_within (members_of a) (λ ms. integer (pos (length ms))) (λ ms e.
      let r = is_set a ms e in subst (λ l. IsTrue (limits.number (pos (length l)))) r.2 (limits.members_fit (length (members r.0)) (subst (IsWithin limits) r.1 o).2))

  -- ---- operators by name

  abbrev OperatorWithin : (List Data → Option Data) → Type 0
  OperatorWithin f = (args : List Data) → EachWithin limits args → Within limits (f args)

  on_one_within : (f : Data → Option Data) → ((x : Data) → IsWithin limits x → Within limits (f x)) → OperatorWithin (on_one f)
  on_one_within f h [] o = none_within limits
  on_one_within f h (x ∷ []) o = h x (o x (inl refl))
  on_one_within f h (x ∷ y ∷ zs) o = none_within limits

  on_two_within : (f : Data → Data → Option Data) → ((x y : Data) → IsWithin limits x → IsWithin limits y → Within limits (f x y)) → OperatorWithin (on_two f)
  on_two_within f h [] o = none_within limits
  on_two_within f h (x ∷ []) o = none_within limits
  on_two_within f h (x ∷ y ∷ []) o = h x y (o x (inl refl)) (o y (inr (inl refl)))
  on_two_within f h (x ∷ y ∷ z ∷ zs) o = none_within limits

  on_three_within : (f : Data → Data → Data → Option Data) → ((x y z : Data) → IsWithin limits x → Within limits (f x y z)) → OperatorWithin (on_three f)
  on_three_within f h [] o = none_within limits
  on_three_within f h (x ∷ []) o = none_within limits
  on_three_within f h (x ∷ y ∷ []) o = none_within limits
  on_three_within f h (x ∷ y ∷ z ∷ []) o = h x y z (o x (inl refl))
  on_three_within f h (x ∷ y ∷ z ∷ w ∷ zs) o = none_within limits

  rows_within : (x : Name) (f : List Data → Option Data) (rows : List (Name × (List Data → Option Data))) → AllByRecursion (λ r. OperatorWithin r.1) rows → find x rows ≡ Some f → OperatorWithin f
  rows_within x f [] a e = absurd (cc)
  rows_within x f (r ∷ rows) a e = go (same_name x r.0) e (rows_within x f rows a.1)
    where
      go : (b : Bool) → (if b then Some r.1 else find x rows) ≡ Some f → (find x rows ≡ Some f → OperatorWithin f) → OperatorWithin f
      go true k i = subst OperatorWithin (same_Some r.1 f k) a.0
      go false k i = i k

  operators_within : (x : Name) (f : List Data → Option Data) → find x operators ≡ Some f → OperatorWithin f
  operators_within x f e =
      rows_within x f operators (
        on_one_within len len_within,
        (
          on_one_within head head_within,
          (
            on_one_within tail tail_within,
            (
              on_two_within append append_within,
              (
                on_three_within sub_seq (λ a m n o. sub_seq_within a m n o),
                (
                  on_one_within cardinality cardinality_within,
                  (on_one_within print (λ a o. some_within limits (boolean true) tt), tt),
                ),
              ),
            ),
          ),
        ),
      ) e

  -- ---- sets of functions

  abbrev EachChoice : Choices → Type 0
  EachChoice cs = (c : Data × List Data) → IsAmong c cs → IsWithin limits c.0 × EachWithin limits c.1

  abbrev AreFew : List Data → Type 0
  AreFew ks = nat_lt most_members (length (in_order ks)) ≡ false

  -- keys and members are values, where the keys are few
  abbrev ChoicesWithin : Choices → Type 0
  ChoicesWithin cs = AreFew (map key_of cs) → EachChoice cs

  paired_all : (cs : Choices) (vs : List Data) → EachChoice cs → InChoices (map set_at cs) vs → EachPair limits (paired cs vs)
  paired_all [] vs h i p m = absurd m
  paired_all (c ∷ cs) [] h i p m = absurd m
  paired_all (c ∷ cs) (v ∷ vs) h i p (inl e) = let a = h c (inl refl) in subst (λ z. IsWithin limits z.0 × IsWithin limits z.1) (sym e) (a.0, a.1 v i.0)
  paired_all (c ∷ cs) (v ∷ vs) h i p (inr m) = paired_all cs vs (λ d k. h d (inr k)) i.1 p m

  paired_keys : (cs : Choices) (vs : List Data) → InChoices (map set_at cs) vs → keys (paired cs vs) ≡ map key_of cs
  paired_keys [] [] h = refl
  paired_keys [] (v ∷ vs) h = absurd h
  paired_keys (c ∷ cs) [] h = absurd h
  paired_keys (c ∷ cs) (v ∷ vs) h = ap (λ ks. c.0 ∷ ks) (paired_keys cs vs h.1)

  functions_within : (cs : Choices) → ChoicesWithin cs → Within limits (functions_over cs)
  functions_within cs h =
      bounded_within limits (choice_count (map set_at cs)) (λ _. option_and_then set_from (each (λ vs. function_from (paired cs vs)) (choices (map set_at cs))))
      (then_within limits (each (λ vs. function_from (paired cs vs)) (choices (map set_at cs))) set_from (λ fs e. set_within limits fs (each_all limits (λ vs. function_from (paired cs vs)) (choices (map set_at cs)) fs (λ vs m. one vs (choices_in (map set_at cs) vs m)) e)))
    where
      one : (vs : List Data) → InChoices (map set_at cs) vs → Within limits (function_from (paired cs vs))
      one vs i = few_within limits (paired cs vs) (λ few. paired_all cs vs (h (subst AreFew (paired_keys cs vs i) few)) i)

  choices_of_all : (ps : List (Data × Data)) (cs : Choices) → (AreFew (keys ps) → EachPair limits ps) → choices_of ps ≡ Some cs → ChoicesWithin cs
  choices_of_all ps cs h e few c m =
      let all = h (subst AreFew (choices_keys ps cs e) few) in
      let r = each_from (λ p. option_map (λ ms. (p.0, ms)) (members_of p.1)) ps cs e c m in
      by_set r.0 (all r.0 r.1) (members_of r.0.1) refl r.2
    where
      by_set : (p : Data × Data) → IsWithin limits p.0 × IsWithin limits p.1 → (o : Option (List Data)) → members_of p.1 ≡ o → option_map (λ ms. (p.0, ms)) o ≡ Some c → IsWithin limits c.0 × EachWithin limits c.1
      by_set p a None q k = absurd (cc)
      by_set p a (Some ms) q k = subst (λ z. IsWithin limits z.0 × EachWithin limits z.1) (same_Some (p.0, ms) c k) (a.0, member_all limits p.1 ms a.1 q)

  functions_sem_within : (o : Option Choices) → ((cs : Choices) → o ≡ Some cs → ChoicesWithin cs) → Within limits (functions_sem o).value
  functions_sem_within o h = then_within limits o functions_over (λ cs e. functions_within cs (h cs e))

  over_all : (ms ns : List Data) → EachWithin limits ms → EachWithin limits ns → EachChoice (map (λ m. (m, ns)) ms)
  over_all ms ns h g c m = let r = from_map (λ m. (m, ns)) c ms m in subst (λ z. IsWithin limits z.0 × EachWithin limits z.1) (sym r.2) (h r.0 r.1, g)

  function_choices_all : (a b : Data) (cs : Choices) → IsWithin limits a → IsWithin limits b → function_choices a b ≡ Some cs → ChoicesWithin cs
  function_choices_all a b cs o p e =
      let r = both_parts (λ ms ns. Some (map (λ m. (m, ns)) ms)) (members_of a) (members_of b) cs e in
      subst ChoicesWithin (same_Some (map (λ m. (m, r.1.0)) r.0) cs r.1.3) (λ few. over_all r.0 r.1.0 (member_all limits a r.0 o r.1.1) (member_all limits b r.1.0 p r.1.2))

  -- ---- EXCEPT

  replaced_all : (k v : Data) (ps : List (Data × Data)) → EachPair limits ps → IsWithin limits v → EachPair limits (replace_at k v ps)
  replaced_all k v [] h o = λ q m. absurd m
  replaced_all k v (p ∷ ps) h o = go (same_data k p.0) refl (replaced_all k v ps (λ q m. h q (inr m)) o)
    where
      go : (b : Bool) → same_data k p.0 ≡ b → EachPair limits (replace_at k v ps) → EachPair limits (if b then (k, v) ∷ ps else p ∷ replace_at k v ps)
      go true e r q (inl g) = subst (λ z. IsWithin limits z.0 × IsWithin limits z.1) (sym g) (subst (IsWithin limits) (sym (same_of k p.0 e)) (h p (inl refl)).0, o)
      go true e r q (inr m) = h q (inr m)
      go false e r q (inl g) = h q (inl g)
      go false e r q (inr m) = r q m

  pub put_within : (path : List Data) (new : Option Data → Option Data) → ((o : Option Data) → Within limits o → Within limits (new o)) → (o : Option Data) → Within limits o → Within limits (put_at path new o)
  put_within [] new h o k = h o k
  put_within (i ∷ is) new h None k = h None (none_within limits)
  put_within (i ∷ is) new h (Some f) k =
      then_within limits (graph_of f) (λ ps. elim (lookup i ps) as (λ o. Option Data) [ None ↦ option_map (λ v. f) (put_at is new None) | Some part ↦ option_and_then (λ v. function_of (replace_at i v ps)) (put_at is new (Some part)) ])
      (λ ps e. at ps (graph_all limits f ps (k f refl) e) (lookup i ps) (λ part g. lookup_within limits i ps (graph_all limits f ps (k f refl) e).0 part g) (λ o q. put_within is new h o q))
    where
      at : (ps : List (Data × Data)) → EachPair limits ps × IsSorted (keys ps) → (l : Option Data) → Within limits l → ((o : Option Data) → Within limits o → Within limits (put_at is new o))
          → Within limits (elim l as (λ o. Option Data) [ None ↦ option_map (λ v. f) (put_at is new None) | Some part ↦ option_and_then (λ v. function_of (replace_at i v ps)) (put_at is new (Some part)) ])
      at ps g None l r = map_within (put_at is new None) (λ v. f) (λ v e. k f refl)
      at ps g (Some part) l r = then_within limits (put_at is new (Some part)) (λ v. function_of (replace_at i v ps)) (λ v e. graph_within limits (replace_at i v ps) (replaced_all i v ps g.0 (r (Some part) l v e)) (subst IsSorted (sym (replaced_keys i v ps)) g.1))

  -- ---- truths, words and operators

  assert_within : (o : Option Data) → Within limits (assert o)
  assert_within (Some (boolean true)) = some_within limits (boolean true) tt
  assert_within _ = none_within limits

  boolean_sorted : IsSorted (boolean false ∷ boolean true ∷ [])
  unfolding IsStrictlySortedBy
  boolean_sorted = ((refl, tt), (tt, tt))

  word_within : (w : Word) → Within limits (word_sem w).value
  word_within words.BooleanSet = some_within limits (set (items (boolean false ∷ boolean true ∷ []))) ((tt, (tt, tt)), boolean_sorted, limits.few_members 2 (omega arith))
  word_within _ = none_within limits

  unary_within : (o : Prefix) (a : Sem) → Within limits a.value → Within limits (unary_sem o a).value
  unary_within prefixs.Not a h = truth_within limits (not3 (truth_of a.value))
  unary_within prefixs.Minus a h = then_within limits a.value (λ x. on_integers (λ y z. in_64 (y -ℤ z)) (integer (pos 0)) x) (λ x e. any_within limits (λ y z. in_64 (y -ℤ z)) (λ y z. in_64_within limits (y -ℤ z)) (integer (pos 0)) x)
  unary_within prefixs.Powerset a h = then_within limits a.value power (λ x e. power_within limits x (h x e))
  unary_within prefixs.Flatten a h = then_within limits a.value flatten (λ x e. flatten_within limits x (h x e))
  unary_within prefixs.Domain a h = then_within limits a.value domain (λ x e. domain_within limits x (h x e))

  arithmetic_within : (f : ℤ → ℤ → ℤ) (a b : Option Data) → Within limits (arithmetic f a b)
  arithmetic_within f a b = both_within limits (on_integers (λ y z. in_64 (f y z))) a b (λ x y e g. any_within limits (λ y z. in_64 (f y z)) (λ y z. in_64_within limits (f y z)) x y)

  comparison_within : (f : ℤ → ℤ → Bool) (a b : Option Data) → Within limits (comparison f a b)
  comparison_within f a b = both_within limits (on_integers (λ y z. Some (boolean (f y z)))) a b (λ x y e g. any_within limits (λ y z. Some (boolean (f y z))) (λ y z. some_within limits (boolean (f y z)) tt) x y)

  test_within : (f : Data → Data → Bool) (a b : Option Data) → Within limits (both (λ x y. Some (boolean (f x y))) a b)
  test_within f a b = both_within limits (λ x y. Some (boolean (f x y))) a b (λ x y e g. some_within limits (boolean (f x y)) tt)

  binary_within : (o : Infix) (a b : Sem) → Within limits a.value → Within limits b.value → Within limits (binary_sem o a b).value
  binary_within infixs.Implies a b h g = truth_within limits (or3 (not3 (truth_of a.value)) (truth_of b.value))
  binary_within infixs.Iff a b h g = truth_within limits (iff3 (truth_of a.value) (truth_of b.value))
  binary_within infixs.And a b h g = truth_within limits (and3 (truth_of a.value) (truth_of b.value))
  binary_within infixs.Or a b h g = truth_within limits (or3 (truth_of a.value) (truth_of b.value))
  binary_within infixs.Equal a b h g = test_within same_data a.value b.value
  binary_within infixs.Differs a b h g = test_within (λ x y. not (same_data x y)) a.value b.value
  binary_within infixs.Less a b h g = comparison_within int_lt a.value b.value
  binary_within infixs.Greater a b h g = comparison_within (λ y z. int_lt z y) a.value b.value
  binary_within infixs.AtMost a b h g = comparison_within (λ y z. not (int_lt z y)) a.value b.value
  binary_within infixs.AtLeast a b h g = comparison_within (λ y z. not (int_lt y z)) a.value b.value
  binary_within infixs.In a b h g = then_within limits a.value (λ x. from_truth (b.holds x)) (λ x e. truth_within limits (b.holds x))
  binary_within infixs.NotIn a b h g = then_within limits a.value (λ x. from_truth (not3 (is_member x b.value))) (λ x e. truth_within limits (not3 (is_member x b.value)))
  binary_within infixs.SubsetEq a b h g = both_within limits subset a.value b.value (λ x y e k. subset_within limits x y)
  binary_within infixs.Merge a b h g = both_within limits merge a.value b.value (λ x y e k. merge_within limits x y (h x e) (g y k))
  binary_within infixs.Single a b h g = both_within limits single a.value b.value (λ x y e k. single_within limits x y (h x e) (g y k))
  binary_within infixs.Union a b h g = both_within limits union a.value b.value (λ x y e k. union_within limits x y (h x e) (g y k))
  binary_within infixs.Intersect a b h g = both_within limits intersect a.value b.value (λ x y e k. intersect_within limits x y (h x e))
  binary_within infixs.Without a b h g = both_within limits minus a.value b.value (λ x y e k. minus_within limits x y (h x e))
  binary_within infixs.Range a b h g = both_within limits (on_integers range) a.value b.value (λ x y e k. range_within limits x y (h x e) (g y k))
  binary_within infixs.Add a b h g = arithmetic_within ◌+ℤ◌ a.value b.value
  binary_within infixs.Subtract a b h g = arithmetic_within ◌-ℤ◌ a.value b.value
  binary_within infixs.Modulo a b h g = both_within limits modulo a.value b.value (λ x y e k. modulo_within limits x y (h x e) (g y k))
  binary_within infixs.Multiply a b h g = arithmetic_within ◌*ℤ◌ a.value b.value
  binary_within infixs.Concat a b h g = both_within limits concat a.value b.value (λ x y e k. concat_within x y (h x e) (g y k))
  binary_within infixs.Divide a b h g = both_within limits divide a.value b.value (λ x y e k. divide_within limits x y (h x e) (g y k))

  decide_within : (p : Option Bool) (a b : Option Data) → Within limits a → Within limits b → Within limits (decide p a b)
  decide_within (Some true) a b h g = h
  decide_within (Some false) a b h g = g
  decide_within None a b h g = none_within limits

  -- ---- names

  pub named_more : (x : Name) (o : Option Data) (ns : Names) → Within limits o → NamesWithin limits ns → NamesWithin limits ((x, o) ∷ ns)
  named_more x o ns h n y v e = go (same_name y x) e
    where
      go : (b : Bool) → (if b then Some o else find y ns) ≡ Some (Some v) → IsWithin limits v
      go true k = h v (same_Some o (Some v) k)
      go false k = n y v k

  pub names_valued : (xs : List Name) (vs : List Data) (ns : Names) → EachWithin limits vs → NamesWithin limits ns → NamesWithin limits (name_values xs vs ns)
  names_valued [] vs ns h n = n
  names_valued (x ∷ xs) [] ns h n = n
  names_valued (x ∷ xs) (v ∷ vs) ns h n = names_valued xs vs ((x, Some v) ∷ ns) (λ y m. h y (inr m)) (named_more x (Some v) ns (some_within limits v (h v (inl refl))) n)

  with_within : (s : Scope) (ns : Names) → ScopeWithin limits s → NamesWithin limits ns → ScopeWithin limits (with_names ns s)
  with_within s ns a n = record { names = n; part = a.part; now = a.now; next = a.next; calls = a.calls }

  more_within : (s : Scope) (x : Name) (o : Option Data) → ScopeWithin limits s → Within limits o → ScopeWithin limits (with_name x o s)
  more_within s x o a h = with_within s ((x, o) ∷ s.names) a (named_more x o s.names h a.names)

  part_within : (s : Scope) (o : Option Data) → ScopeWithin limits s → Within limits o → ScopeWithin limits (with_part o s)
  part_within s o a h = record { names = a.names; part = h; now = a.now; next = a.next; calls = a.calls }

  name_within : (x : Name) (s : Scope) → ScopeWithin limits s → Within limits (value_of_name x s)
  name_within x s a = go (find x s.names) (find x s.now) (λ v e. a.names x v e) (a.now x)
    where
      go : (n : Option (Option Data)) (o : Option Data) → ((v : Data) → n ≡ Some (Some v) → IsWithin limits v) → Within limits o → Within limits (or_else n (λ p. p) (or_else o (λ v. Some v) (call_def x [] s.defs)))
      go (Some p) o h g = λ v e. h v (ap Some e)
      go None (Some w) h g = g
      go None None h g = a.calls x [] (λ y m. absurd m)

  call_within : (x : Name) (args : List Data) (s : Scope) → ScopeWithin limits s → EachWithin limits args → Within limits (value_of_call x args s)
  call_within x args s a h = go (find x operators) (find x s.names) (find x s.now) (λ f e. operators_within x f e args h)
    where
      go : (f : Option (List Data → Option Data)) (n : Option (Option Data)) (o : Option Data) → ((g : List Data → Option Data) → f ≡ Some g → Within limits (g args)) → Within limits (or_else f (λ g. g args) (or_else n (λ p. None) (or_else o (λ v. None) (call_def x args s.defs))))
      go (Some g) n o k = k g refl
      go None (Some p) o k = none_within limits
      go None None (Some v) k = none_within limits
      go None None None k = a.calls x args h

  -- ---- choices

  first3_within : (p : Data → Option Bool) (ms : List Data) → EachWithin limits ms → Within limits (first3 p ms)
  first3_within p [] h = none_within limits
  first3_within p (m ∷ ms) h = go (p m) (first3_within p ms (λ y k. h y (inr k)))
    where
      go : (t : Option Bool) → Within limits (first3 p ms) → Within limits (least3 t m (first3 p ms))
      go (Some true) r = some_within limits m (h m (inl refl))
      go (Some false) r = r
      go None r = none_within limits

  filter3_all : (p : Data → Option Bool) (ms ks : List Data) → EachWithin limits ms → filter3 p ms ≡ Some ks → EachWithin limits ks
  filter3_all p [] ks h e = subst (EachWithin limits) (same_Some [] ks e) h
  filter3_all p (m ∷ ms) ks h e = go (p m) (filter3 p ms) refl e (λ ls g. filter3_all p ms ls (λ y k. h y (inr k)) g)
    where
      kept : (t : Option Bool) (ls : List Data) → EachWithin limits ls → keep3 t m ls ≡ Some ks → EachWithin limits ks
      kept (Some true) ls o k = subst (EachWithin limits) (same_Some (m ∷ ls) ks k) (more_all m ls (h m (inl refl)) o)
      kept (Some false) ls o k = subst (EachWithin limits) (same_Some ls ks k) o
      kept None ls o k = absurd (cc)

      go : (t : Option Bool) (o : Option (List Data)) → filter3 p ms ≡ o → option_and_then (keep3 t m) o ≡ Some ks → ((ls : List Data) → filter3 p ms ≡ Some ls → EachWithin limits ls) → EachWithin limits ks
      go t None g k r = absurd (cc)
      go t (Some ls) g k r = kept t ls (r ls g) k

  abbrev RangesWithin : List (Name × List Data) → Type 0
  RangesWithin over = (b : Name × List Data) → IsAmong b over → EachWithin limits b.1

  over_each_all : (xs : List Name) (ms : List Data) (rest : List (Name × List Data)) → EachWithin limits ms → RangesWithin rest → RangesWithin (over_each xs ms rest)
  over_each_all [] ms rest h r b m = r b m
  over_each_all (x ∷ xs) ms rest h r b (inl e) = subst (λ z. EachWithin limits z.1) (sym e) h
  over_each_all (x ∷ xs) ms rest h r b (inr m) = over_each_all xs ms rest h r b m

  chosen_all : (over : List (Name × List Data)) (vs : List Data) → RangesWithin over → InChoices (sets_over over) vs → EachWithin limits vs
  chosen_all [] [] r i x m = absurd m
  chosen_all [] (v ∷ vs) r i x m = absurd i
  chosen_all (b ∷ over) [] r i x m = absurd i
  chosen_all (b ∷ over) (v ∷ vs) r i x (inl e) = subst (IsWithin limits) (sym e) (r b (inl refl) v i.0)
  chosen_all (b ∷ over) (v ∷ vs) r i x (inr m) = chosen_all over vs (λ c k. r c (inr k)) i.1 x m

  index_within : (vs : List Data) → EachWithin limits vs → Within limits (index_of vs)
  index_within [] h = none_within limits
  index_within (v ∷ []) h = some_within limits v (h v (inl refl))
  index_within (v ∷ w ∷ vs) h = sequence_within limits (v ∷ w ∷ vs) h

  function_over_within : (over : List (Name × List Data)) (f : Names → Option Data) (ns : Names) → RangesWithin over → NamesWithin limits ns → ((ms : Names) → NamesWithin limits ms → Within limits (f ms)) → Within limits (function_over over f ns)
  function_over_within over f ns r n h =
      bounded_within limits (choice_count (sets_over over)) (λ _. option_and_then function_from (each (λ vs. both (λ k v. Some (k, v)) (index_of vs) (f (name_values (names_over over) vs ns))) (choices (sets_over over))))
      (then_within limits (each (λ vs. both (λ k v. Some (k, v)) (index_of vs) (f (name_values (names_over over) vs ns))) (choices (sets_over over))) function_from (λ ps e. function_within limits ps (pairs_all ps e)))
    where
      pairs_all : (ps : List (Data × Data)) → each (λ vs. both (λ k v. Some (k, v)) (index_of vs) (f (name_values (names_over over) vs ns))) (choices (sets_over over)) ≡ Some ps → EachPair limits ps
      pairs_all ps e p m =
          let q = each_from (λ vs. both (λ k v. Some (k, v)) (index_of vs) (f (name_values (names_over over) vs ns))) (choices (sets_over over)) ps e p m in
          let o = chosen_all over q.0 r (choices_in (sets_over over) q.0 q.1) in
          let b = both_parts (λ k v. Some (k, v)) (index_of q.0) (f (name_values (names_over over) q.0 ns)) p q.2 in
          subst (λ z. IsWithin limits z.0 × IsWithin limits z.1) (same_Some (b.0, b.1.0) p b.1.3) (index_within q.0 o b.0 b.1.1, h (name_values (names_over over) q.0 ns) (names_valued (names_over over) q.0 ns o n) b.1.0 b.1.2)

  pairs_in_order_all : (ps : List (Data × Data)) → EachPair limits ps → EachPair limits (pairs_in_order ps)
  pairs_in_order_all ps h q m = h q (ordered_among q ps m)

  -- ---- the values of expressions

  asserted_within : (ts : Trees) (s : Scope) → Within limits (asserted ts s)
  asserted_within no_trees s = none_within limits
  asserted_within (more_trees e no_trees) s = none_within limits
  asserted_within (more_trees e (more_trees m no_trees)) s = assert_within (sem e s).value
  asserted_within (more_trees e (more_trees m (more_trees n ts))) s = none_within limits

  called : (b : Bool) (p q : Option Data) → Within limits p → Within limits q → Within limits (if b then p else q)
  called true p q h g = h
  called false p q h g = g

  more_pairs : (k v : Data) (ps : List (Data × Data)) → IsWithin limits k → IsWithin limits v → EachPair limits ps → EachPair limits ((k, v) ∷ ps)
  more_pairs k v ps o p h q (inl e) = subst (λ z. IsWithin limits z.0 × IsWithin limits z.1) (sym e) (o, p)
  more_pairs k v ps o p h q (inr m) = h q m

  product_all : (o : Option (List Data)) → ((vs : List Data) → o ≡ Some vs → EachWithin limits vs) → (cs : Choices) → option_and_then product_choices o ≡ Some cs → ChoicesWithin cs
  product_all None h cs e = absurd (cc)
  product_all (Some vs) h cs e = choices_of_all (sequence_at 1 vs) cs (λ few. few_pairs limits vs few (h vs refl)) e

  record_all : (o : Option (List (Data × Data))) → ((ps : List (Data × Data)) → o ≡ Some ps → EachPair limits ps) → (cs : Choices) → option_and_then record_choices o ≡ Some cs → ChoicesWithin cs
  record_all None h cs e = absurd (cc)
  record_all (Some ps) h cs e = choices_of_all (pairs_in_order ps) cs (λ few. pairs_in_order_all ps (h ps refl)) e

  fun_set_all : (a b : Option Data) → Within limits a → Within limits b → (cs : Choices) → both function_choices a b ≡ Some cs → ChoicesWithin cs
  fun_set_all a b h g cs e = let p = both_parts function_choices a b cs e in function_choices_all p.0 p.1.0 cs (h p.0 p.1.1) (g p.1.0 p.1.2) p.1.3

  mutual
    pub tree_within : (e : Tree) (s : Scope) → LiteralsWithin limits e → ScopeWithin limits s → Within limits (sem e s).value
    tree_within (name x) s l a = name_within x s a
    tree_within (primed x) s l a = a.next x
    tree_within (number z) s l a = some_within limits (integer z) l
    tree_within (text t) s l a = some_within limits (string t) l
    tree_within (truth b) s l a = some_within limits (boolean b) tt
    tree_within at s l a = a.part
    tree_within (word w) s l a = word_within w
    tree_within (unary o e) s l a = unary_within o (sem e s) (tree_within e s l a)
    tree_within (binary o e f) s l a = binary_within o (sem e s) (sem f s) (tree_within e s l.0 a) (tree_within f s l.1 a)
    tree_within (product ts) s l a = functions_sem_within (option_and_then product_choices (values_of ts s)) (product_all (values_of ts s) (trees_within ts s l a))
    tree_within (cond_of p e f) s l a = decide_within (truth_of (sem p s).value) (sem e s).value (sem f s).value (tree_within e s l.1 a) (tree_within f s l.2 a)
    tree_within (case_of gs) s l a = case_within gs s l a None (none_within limits)
    tree_within (case_other gs e) s l a = case_within gs s l.0 a (sem e s).value (tree_within e s l.1 a)
    tree_within (let_in ds e) s l a = tree_within e (let_scope ds s) l.1 (let_within ds s l.0 a)
    tree_within (quantified q bs p) s l a =
        then_within limits (ranges bs s) (λ over. from_truth (quantify q over (λ ns. truth_of (sem p (with_names ns s)).value) s.names)) (λ over e. truth_within limits (quantify q over (λ ns. truth_of (sem p (with_names ns s)).value) s.names))
    tree_within (choose x r p) s l a =
        then_within limits (option_and_then members_of (sem r s).value) (first3 (λ m. truth_of (sem p (with_name x (Some m) s)).value)) (λ ms e. first3_within (λ m. truth_of (sem p (with_name x (Some m) s)).value) ms (members_all limits (sem r s).value ms (tree_within r s l.0 a) e))
    tree_within (tuple ts) s l a = then_within limits (values_of ts s) sequence (λ vs e. sequence_within limits vs (trees_within ts s l a vs e))
    tree_within (set_of ts) s l a = then_within limits (values_of ts s) set_from (λ vs e. set_within limits vs (trees_within ts s l a vs e))
    tree_within (filter_of x r p) s l a =
        then_within limits (option_and_then members_of (sem r s).value) (λ ms. option_and_then set_from (filter3 (λ m. truth_of (sem p (with_name x (Some m) s)).value) ms))
        (λ ms e. then_within limits (filter3 (λ m. truth_of (sem p (with_name x (Some m) s)).value) ms) set_from (λ ks g. set_within limits ks (filter3_all (λ m. truth_of (sem p (with_name x (Some m) s)).value) ms ks (members_all limits (sem r s).value ms (tree_within r s l.0 a) e) g)))
    tree_within (image e x r) s l a =
        then_within limits (option_and_then members_of (sem r s).value) (λ ms. option_and_then set_from (each (λ m. (sem e (with_name x (Some m) s)).value) ms))
        (λ ms g. then_within limits (each (λ m. (sem e (with_name x (Some m) s)).value) ms) set_from (λ ks k. set_within limits ks (each_all limits (λ m. (sem e (with_name x (Some m) s)).value) ms ks (λ m i. tree_within e (with_name x (Some m) s) l.0 (more_within s x (Some m) a (some_within limits m (members_all limits (sem r s).value ms (tree_within r s l.1 a) g m i)))) k)))
    tree_within (fun_of bs e) s l a =
        then_within limits (ranges bs s) (λ over. function_over over (λ ns. (sem e (with_names ns s)).value) s.names) (λ over g. function_over_within over (λ ns. (sem e (with_names ns s)).value) s.names (ranges_within bs s l.0 a over g) a.names (λ ns n. tree_within e (with_names ns s) l.1 (with_within s ns a n)))
    tree_within (fun_set e f) s l a = functions_sem_within (both function_choices (sem e s).value (sem f s).value) (fun_set_all (sem e s).value (sem f s).value (tree_within e s l.0 a) (tree_within f s l.1 a))
    tree_within (record_of ds) s l a = then_within limits (fields ds s) function_from (λ ps e. function_within limits ps (fields_within ds s l a ps e))
    tree_within (record_set ds) s l a = functions_sem_within (option_and_then record_choices (fields ds s)) (record_all (fields ds s) (fields_within ds s l a))
    tree_within (except f us) s l a = updated_within us s l.1 a (sem f s).value (tree_within f s l.0 a)
    tree_within (index f ts) s l a = both_within limits apply (sem f s).value (option_and_then index_of (values_of ts s)) (λ x y e g. apply_within limits x y (tree_within f s l.0 a x e))
    tree_within (field r x) s l a = then_within limits (sem r s).value (λ v. apply v (string x)) (λ v e. apply_within limits v (string x) (tree_within r s l.1 a v e))
    tree_within (call x ts) s l a = called (same_name x assert_name) (asserted ts s) (option_and_then (λ args. value_of_call x args s) (values_of ts s)) (asserted_within ts s) (then_within limits (values_of ts s) (λ args. value_of_call x args s) (λ args e. call_within x args s a (trees_within ts s l a args e)))
    tree_within (unchanged xs) s l a = then_within limits s.next (λ next. from_truth (same_variables xs s.now next)) (λ next e. truth_within limits (same_variables xs s.now next))

    trees_within : (ts : Trees) (s : Scope) → TreesWithin limits ts → ScopeWithin limits s → (vs : List Data) → values_of ts s ≡ Some vs → EachWithin limits vs
    trees_within no_trees s l a vs e = subst (EachWithin limits) (same_Some [] vs e) (λ x m. absurd m)
    trees_within (more_trees t ts) s l a vs e =
        let b = both_parts (λ v ws. Some (v ∷ ws)) (sem t s).value (values_of ts s) vs e in
        subst (EachWithin limits) (same_Some (b.0 ∷ b.1.0) vs b.1.3) (more_all b.0 b.1.0 (tree_within t s l.0 a b.0 b.1.1) (trees_within ts s l.1 a b.1.0 b.1.2))

    let_within : (ds : NamedTrees) (s : Scope) → NamedTreesWithin limits ds → ScopeWithin limits s → ScopeWithin limits (let_scope ds s)
    let_within no_named s l a = a
    let_within (more_named x t ds) s l a = let_within ds (with_name x (sem t s).value s) l.2 (more_within s x (sem t s).value a (tree_within t s l.1 a))

    case_within : (gs : TreePairs) (s : Scope) → ArmsWithin limits gs → ScopeWithin limits s → (o : Option Data) → Within limits o → Within limits (case_value gs s o)
    case_within no_arms s l a o h = h
    case_within (more_arms g e gs) s l a o h = decide_within (truth_of (sem g s).value) (sem e s).value (case_value gs s o) (tree_within e s l.1 a) (case_within gs s l.2 a o h)

    ranges_within : (bs : BoundTrees) (s : Scope) → BoundWithin limits bs → ScopeWithin limits s → (over : List (Name × List Data)) → ranges bs s ≡ Some over → RangesWithin over
    ranges_within no_bound s l a over e = subst RangesWithin (same_Some [] over e) (λ b m. absurd m)
    ranges_within (more_bound xs r bs) s l a over e =
        let b = both_parts (λ ms rest. Some (over_each xs ms rest)) (option_and_then members_of (sem r s).value) (ranges bs s) over e in
        subst RangesWithin (same_Some (over_each xs b.0 b.1.0) over b.1.3) (over_each_all xs b.0 b.1.0 (members_all limits (sem r s).value b.0 (tree_within r s l.0 a) b.1.1) (ranges_within bs s l.1 a b.1.0 b.1.2))

    fields_within : (ds : NamedTrees) (s : Scope) → NamedTreesWithin limits ds → ScopeWithin limits s → (ps : List (Data × Data)) → fields ds s ≡ Some ps → EachPair limits ps
    fields_within no_named s l a ps e = subst (EachPair limits) (same_Some [] ps e) (λ p m. absurd m)
    fields_within (more_named x t ds) s l a ps e =
        let b = both_parts (λ v rest. Some ((string x, v) ∷ rest)) (sem t s).value (fields ds s) ps e in
        subst (EachPair limits) (same_Some ((string x, b.0) ∷ b.1.0) ps b.1.3) (more_pairs (string x) b.0 b.1.0 l.0 (tree_within t s l.1 a b.0 b.1.1) (fields_within ds s l.2 a b.1.0 b.1.2))

    updated_within : (us : PathTrees) (s : Scope) → PathsWithin limits us → ScopeWithin limits s → (o : Option Data) → Within limits o → Within limits (updated us s o)
    updated_within no_paths s l a o h = h
    updated_within (more_paths ps e us) s l a o h =
        updated_within us s l.2 a (option_and_then (λ path. option_and_then (λ v. put_at path (λ part. (sem e (with_part part s)).value) (Some v)) o) (values_of ps s))
        (then_within limits (values_of ps s) (λ path. option_and_then (λ v. put_at path (λ part. (sem e (with_part part s)).value) (Some v)) o)
        (λ path g. then_within limits o (λ v. put_at path (λ part. (sem e (with_part part s)).value) (Some v)) (λ v k. put_within path (λ part. (sem e (with_part part s)).value) (λ p q. tree_within e (with_part p s) l.1 (part_within s p a q)) (Some v) (some_within limits v (h v k)))))
