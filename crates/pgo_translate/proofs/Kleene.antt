-- When conjunctions, disjunctions, choices and the other items of an action are TRUE.
use Rattle.std.proofs.Common.{◌≡◌, ◌⊎◌, ℕ, zero, suc, ◌<◌, length, get_or, Contains, Bool, true, false, List, [], ◌∷◌, ◌++◌, Option, Some, None, ◌↔◌, refl, sym, ap, ◌∙◌, subst, option_and_then, option_map, inl, inr, ⊎_elim, arith}
use Rattle.std.specs.Prelude.{if◌then◌else◌, ◌&&◌, nat_lt}
use Rattle.std.proofs.lemmas.Option.{same_Some}
use Rattle.pgo_base.specs.declared.expr.Infix.TheVariants as infixs
use Rattle.pgo_base.specs.declared.expr.Quantifier.TheVariants as quantifiers
use Rattle.pgo_base.specs.Data.{Data, boolean, integer, string, model, set, function, no_items, item, members}
use Rattle.pgo_base.specs.Lookup.{Name, Vars, find}
use Rattle.pgo_base.specs.Size.{depth}
use Rattle.pgo_base.specs.Tree.{Tree, binary}
use Rattle.pgo_model.specs.Module.{joined_by, all_of, any_of}
use Rattle.pgo_model.specs.Operators.{or3, truth_of, from_truth, any3, set_from, members_of, is_member, contains, same_data, both, if_few, most_depth}
use Rattle.pgo_model.specs.Sequences.{assert, print, on_one}
use Rattle.pgo_model.specs.Val.{Scope, sem, val, decide, with_name, with_names, quantify, over_each, binary_value, same_variable, same_variables}
use Rattle.pgo_bound.specs.Lookups.{same_of, same_itself}
use Rattle.pgo_values.proofs.Lists.{none_is}
use Rattle.pgo_translate.specs.Items.{some_in, only, asserts, prints}
use Rattle.pgo_sections.specs.BoundValues.{bindable}
use Rattle.pgo_translate.proofs.Truths.{from_truth-yes, truth_of-yes, and-yes}

-- a value that a `with` may bind makes a set by itself
abbrev pub CanBeBound : Data → Type 0
CanBeBound v = set_from (v ∷ []) ≡ Some (set (item v no_items))

abbrev pub is_true : Option Data → Type 0
is_true o = o ≡ Some (boolean true)

abbrev pub is_false : Option Data → Type 0
is_false o = o ≡ Some (boolean false)

pub iff_then : {A B C : Type 0} → A ↔ B → B ↔ C → A ↔ C
iff_then f g = (λ a. g.0 (f.0 a), λ c. f.1 (g.1 c))

pub iff_back : {A B : Type 0} → A ↔ B → B ↔ A
iff_back f = (f.1, f.0)

pub pair_iff : {A B C D : Type 0} → A ↔ B → C ↔ D → (A × C) ↔ (B × D)
pair_iff f g = (λ h. (f.0 h.0, g.0 h.1), λ h. (f.1 h.0, g.1 h.1))

pub sum_iff : {A B C D : Type 0} → A ↔ B → C ↔ D → (A ⊎ C) ↔ (B ⊎ D)
sum_iff f g = (⊎_elim (λ a. inl (f.0 a)) (λ c. inr (g.0 c)), ⊎_elim (λ b. inl (f.1 b)) (λ d. inr (g.1 d)))

pub lone_iff : {A B : Type 0} → A ↔ B → (A × Unit {0}) ↔ B
lone_iff f = (λ h. f.0 h.0, λ b. (f.1 b, tt))

or3-yes : (p q : Option Bool) → (or3 p q ≡ Some true) ↔ ((p ≡ Some true) ⊎ (q ≡ Some true))
or3-yes (Some true) q = (λ h. inl refl, λ h. refl)
or3-yes (Some false) q = (λ h. inr h, ⊎_elim (λ k. absurd (cc)) (λ k. k))
or3-yes None (Some true) = (λ h. inr refl, λ h. refl)
or3-yes None (Some false) = (λ h. absurd (cc), ⊎_elim (λ k. absurd (cc)) (λ k. absurd (cc)))
or3-yes None None = (λ h. absurd (cc), ⊎_elim (λ k. absurd (cc)) (λ k. absurd (cc)))

-- a disjunction is TRUE exactly where a side is
pub or-yes : (a b : Option Data) → is_true (binary_value infixs.Or a b) ↔ (is_true a ⊎ is_true b)
or-yes a b =
    iff_then (from_truth-yes (or3 (truth_of a) (truth_of b)))
    (iff_then (or3-yes (truth_of a) (truth_of b)) (sum_iff (truth_of-yes a) (truth_of-yes b)))

-- it has the truth value false exactly where it is FALSE
pub truth_of-no : (o : Option Data) → (truth_of o ≡ Some false) ↔ is_false o
truth_of-no o = (to o, λ h. ap truth_of h)
  where
    to : (o : Option Data) → truth_of o ≡ Some false → o ≡ Some (boolean false)
    to None h = absurd (cc)
    to (Some (boolean b)) h = ap from_truth h
    to (Some (integer z)) h = absurd (cc)
    to (Some (string x)) h = absurd (cc)
    to (Some (model x)) h = absurd (cc)
    to (Some (set xs)) h = absurd (cc)
    to (Some (function ps)) h = absurd (cc)

decide-yes : (p : Option Bool) (a b : Option Data) → is_true (decide p a b) ↔ (((p ≡ Some true) × is_true a) ⊎ ((p ≡ Some false) × is_true b))
decide-yes (Some true) a b = (λ h. inl (refl, h), ⊎_elim (λ k. k.1) (λ k. absurd (let e = k.0 in cc)))
decide-yes (Some false) a b = (λ h. inr (refl, h), ⊎_elim (λ k. absurd (let e = k.0 in cc)) (λ k. k.1))
decide-yes None a b = (λ h. absurd (cc), ⊎_elim (λ k. absurd (let e = k.0 in cc)) (λ k. absurd (let e = k.0 in cc)))

-- IF is TRUE exactly where the side that is chosen is
pub if-yes : (o a b : Option Data) → is_true (decide (truth_of o) a b) ↔ ((is_true o × is_true a) ⊎ (is_false o × is_true b))
if-yes o a b =
    iff_then (decide-yes (truth_of o) a b)
    (sum_iff (pair_iff (truth_of-yes o) (λ h. h, λ h. h)) (pair_iff (truth_of-no o) (λ h. h, λ h. h)))

pub contains_first : (v m : Data) (ms : List Data) → v ≡ m → contains v (m ∷ ms) ≡ true
contains_first v m ms e = ap (λ w. contains v (w ∷ ms)) (sym e) ∙ ap (λ b. if b then true else contains v ms) (same_itself v)

pub contains_later : (v m : Data) (ms : List Data) → contains v ms ≡ true → contains v (m ∷ ms) ≡ true
contains_later v m ms h = go (same_data v m)
  where
    go : (b : Bool) → (if b then true else contains v ms) ≡ true
    go true = refl
    go false = h

pub contains_cases : (v m : Data) (ms : List Data) → contains v (m ∷ ms) ≡ true → (v ≡ m) ⊎ (contains v ms ≡ true)
contains_cases v m ms h = go (same_data v m) refl h
  where
    go : (b : Bool) → same_data v m ≡ b → (if b then true else contains v ms) ≡ true → (v ≡ m) ⊎ (contains v ms ≡ true)
    go true e k = inl (same_of v m e)
    go false e k = inr k

-- some member is what is asked for
pub any3-yes : (p : Data → Option Bool) (ms : List Data) → (any3 p ms ≡ Some true) ↔ ((v : Data) × (contains v ms ≡ true) × (p v ≡ Some true))
any3-yes p [] = (λ h. absurd (cc), λ h. absurd (let e = h.1 in cc))
any3-yes p (m ∷ ms) = step (any3-yes p ms)
  where
    step : (any3 p ms ≡ Some true) ↔ ((v : Data) × (contains v ms ≡ true) × (p v ≡ Some true)) → (or3 (p m) (any3 p ms) ≡ Some true) ↔ ((v : Data) × (contains v (m ∷ ms) ≡ true) × (p v ≡ Some true))
    step ih = (to, from)
      where
        to : or3 (p m) (any3 p ms) ≡ Some true → (v : Data) × (contains v (m ∷ ms) ≡ true) × (p v ≡ Some true)
        to h = ⊎_elim (λ k. (m, contains_first m m ms refl, k)) (λ k. let r = ih.0 k in (r.0, contains_later r.0 m ms r.1, r.2)) ((or3-yes (p m) (any3 p ms)).0 h)

        from : (v : Data) × (contains v (m ∷ ms) ≡ true) × (p v ≡ Some true) → or3 (p m) (any3 p ms) ≡ Some true
        from r =
            (or3-yes (p m) (any3 p ms)).1 (⊎_elim (λ e. inl (ap p (sym e) ∙ r.2)) (λ k. inr (ih.1 (r.0, k, r.2))) (contains_cases r.0 m ms r.1))

-- \E x \in r : p, by the value of r
module _ (x : Name) (p : Tree) (s : Scope) where
  abbrev truth_with : Data → Option Bool
  truth_with m = truth_of (val p (with_name x (Some m) s))

  abbrev exists_in : Option Data → Option Data
  exists_in o =
      option_and_then (λ over. from_truth (quantify quantifiers.Exists over (λ ns. truth_of (sem p (with_names ns s)).value) s.names)) (both (λ ms rest. Some (over_each (x ∷ []) ms rest)) (option_and_then members_of o) (Some []))

  exists-yes : (o : Option Data) → is_true (exists_in o) ↔ ((v : Data) × (is_member v o ≡ Some true) × is_true (val p (with_name x (Some v) s)))
  exists-yes None = (λ h. absurd (cc), λ h. absurd (let e = h.1 in cc))
  exists-yes (Some (set xs)) = (to, from)
    where
      to : is_true (from_truth (any3 truth_with (members xs))) → (v : Data) × (Some (contains v (members xs)) ≡ Some true) × is_true (val p (with_name x (Some v) s))
      to h =
          let r = (any3-yes truth_with (members xs)).0 ((from_truth-yes (any3 truth_with (members xs))).0 h) in
          (r.0, ap Some r.1, (truth_of-yes (val p (with_name x (Some r.0) s))).0 r.2)

      from : (v : Data) × (Some (contains v (members xs)) ≡ Some true) × is_true (val p (with_name x (Some v) s)) → is_true (from_truth (any3 truth_with (members xs)))
      from r =
          (from_truth-yes (any3 truth_with (members xs))).1 ((any3-yes truth_with (members xs)).1 (r.0, same_Some (contains r.0 (members xs)) true r.1, (truth_of-yes (val p (with_name x (Some r.0) s))).1 r.2))
  exists-yes (Some (boolean b)) = (λ h. absurd (cc), λ h. absurd (let e = h.1 in cc))
  exists-yes (Some (integer z)) = (λ h. absurd (cc), λ h. absurd (let e = h.1 in cc))
  exists-yes (Some (string u)) = (λ h. absurd (cc), λ h. absurd (let e = h.1 in cc))
  exists-yes (Some (model u)) = (λ h. absurd (cc), λ h. absurd (let e = h.1 in cc))
  exists-yes (Some (function ps)) = (λ h. absurd (cc), λ h. absurd (let e = h.1 in cc))

  -- it is TRUE exactly where the body is TRUE of some member
  pub some_in-yes : (r : Tree) → is_true (val (some_in x r p) s) ↔ ((v : Data) × (is_member v (val r s) ≡ Some true) × is_true (val p (with_name x (Some v) s)))
  some_in-yes r = exists-yes (val r s)

  -- a value makes a set by itself, or there is no such set
  alone : (v : Data) → (set_from (v ∷ []) ≡ None) ⊎ CanBeBound v
  alone v = go (nat_lt most_depth (depth (set (item v no_items))))
    where
      go : (b : Bool) → ((if b then None else if_few 1 (set (item v no_items))) ≡ None) ⊎ ((if b then None else if_few 1 (set (item v no_items))) ≡ Some (set (item v no_items)))
      go true = inl refl
      go false = inr refl

  abbrev only_one : Option Data → Option Data
  only_one o = option_and_then set_from (both (λ v vs. Some (v ∷ vs)) o (Some []))

  only-yes : (o : Option Data) → is_true (exists_in (only_one o)) ↔ ((v : Data) × (o ≡ Some v) × CanBeBound v × is_true (val p (with_name x (Some v) s)))
  only-yes None = (λ h. absurd (cc), λ h. absurd (let e = h.1 in cc))
  only-yes (Some v) = (to, from)
    where
      the : (u : Data) → is_member u (Some (set (item v no_items))) ≡ Some true → u ≡ v
      the u h = ⊎_elim (λ e. e) (λ k. absurd (cc)) (contains_cases u v [] (same_Some (contains u (v ∷ [])) true h))

      inside : CanBeBound v → is_true (exists_in (set_from (v ∷ []))) → (u : Data) × (Some v ≡ Some u) × CanBeBound u × is_true (val p (with_name x (Some u) s))
      inside b h =
          let r = (exists-yes (Some (set (item v no_items)))).0 (subst (λ o. is_true (exists_in o)) b h) in
          (v, refl, b, subst (λ u. is_true (val p (with_name x (Some u) s))) (the r.0 r.1) r.2)

      to : is_true (exists_in (set_from (v ∷ []))) → (u : Data) × (Some v ≡ Some u) × CanBeBound u × is_true (val p (with_name x (Some u) s))
      to h = ⊎_elim (λ n. absurd (none_is (boolean true) (subst (λ o. is_true (exists_in o)) n h))) (λ b. inside b h) (alone v)

      from : (u : Data) × (Some v ≡ Some u) × CanBeBound u × is_true (val p (with_name x (Some u) s)) → is_true (exists_in (set_from (v ∷ [])))
      from r =
          let e : r.0 ≡ v = sym (same_Some v r.0 r.1) in
          let b : CanBeBound v = subst CanBeBound e r.2 in
          subst (λ o. is_true (exists_in o)) (sym b)
          ((exists-yes (Some (set (item v no_items)))).1 (v, ap Some (contains_first v v [] refl), subst (λ u. is_true (val p (with_name x (Some u) s))) e r.3))

  -- what can be bound is a value that can be bound
  bindable-is : (o : Option Data) (v : Data) → (bindable o ≡ Some v) ↔ ((o ≡ Some v) × CanBeBound v)
  bindable-is None v = (λ h. absurd (none_is v h), λ h. absurd (none_is v h.0))
  bindable-is (Some u) v = (to, from)
    where
      to : option_map (λ x. u) (set_from (u ∷ [])) ≡ Some v → (Some u ≡ Some v) × CanBeBound v
      to h =
          ⊎_elim (λ n. absurd (none_is v (sym (ap (option_map (λ x. u)) n) ∙ h)))
          (λ b. let e : Some u ≡ Some v = sym (ap (option_map (λ x. u)) b) ∙ h in (e, subst CanBeBound (same_Some u v e) b)) (alone u)

      from : (Some u ≡ Some v) × CanBeBound v → option_map (λ x. u) (set_from (u ∷ [])) ≡ Some v
      from h = let b : CanBeBound u = subst CanBeBound (sym (same_Some u v h.0)) h.1 in ap (option_map (λ x. u)) b ∙ h.0

  -- a choice from the one value of e is TRUE exactly where e has a value that can be bound and the body is TRUE of it
  pub one-yes : (e : Tree) → is_true (val (some_in x (only e) p) s) ↔ ((v : Data) × (bindable (val e s) ≡ Some v) × is_true (val p (with_name x (Some v) s)))
  one-yes e = (
    λ h. let r = (only-yes (val e s)).0 h in (r.0, (bindable-is (val e s) r.0).1 (r.1, r.2), r.3),
    λ h. let q = (bindable-is (val e s) h.0).0 h.1 in (only-yes (val e s)).1 (h.0, q.0, q.1, h.2),
  )

assert_true : (o : Option Data) → is_true (assert o) ↔ is_true o
assert_true None = (λ h. absurd (cc), λ h. absurd (cc))
assert_true (Some (boolean true)) = (λ h. h, λ h. h)
assert_true (Some (boolean false)) = (λ h. absurd (cc), λ h. absurd (cc))
assert_true (Some (integer z)) = (λ h. absurd (cc), λ h. absurd (cc))
assert_true (Some (string u)) = (λ h. absurd (cc), λ h. absurd (cc))
assert_true (Some (model u)) = (λ h. absurd (cc), λ h. absurd (cc))
assert_true (Some (set xs)) = (λ h. absurd (cc), λ h. absurd (cc))
assert_true (Some (function ps)) = (λ h. absurd (cc), λ h. absurd (cc))

-- Assert is TRUE exactly where its expression is
pub assert-yes : (e : Tree) (s : Scope) → is_true (val (asserts e) s) ↔ is_true (val e s)
assert-yes e s = assert_true (val e s)

print_true : (o : Option Data) → is_true (option_and_then print o) ↔ ((v : Data) × (o ≡ Some v))
print_true None = (λ h. absurd (cc), λ h. absurd (let e = h.1 in cc))
print_true (Some v) = (λ h. (v, refl), λ h. refl)

print_is : (e : Tree) (s : Scope) → val (prints e) s ≡ option_and_then print (val e s)
print_is e s = go (val e s)
  where
    go : (o : Option Data) → option_and_then (on_one print) (both (λ v vs. Some (v ∷ vs)) o (Some [])) ≡ option_and_then print o
    go None = refl
    go (Some v) = refl

-- PrintT is TRUE exactly where its expression has a value
pub print-yes : (e : Tree) (s : Scope) → is_true (val (prints e) s) ↔ ((v : Data) × (val e s ≡ Some v))
print-yes e s = subst (λ o. is_true o ↔ ((v : Data) × (val e s ≡ Some v))) (sym (print_is e s)) (print_true (val e s))

-- all of these are TRUE; some is
abbrev pub AllYes : Scope → List Tree → Type 0
AllYes s [] = Unit {0}
AllYes s (e ∷ es) = is_true (val e s) × AllYes s es

abbrev pub SomeYes : Scope → List Tree → Type 0
SomeYes s [] = ⊥
SomeYes s (e ∷ es) = is_true (val e s) ⊎ SomeYes s es

joined_and : (s : Scope) (a : Tree) (es : List Tree) → is_true (val (joined_by infixs.And a es) s) ↔ (is_true (val a s) × AllYes s es)
joined_and s a [] = (λ h. (h, tt), λ h. h.0)
joined_and s a (e ∷ es) =
    let ih = joined_and s (binary infixs.And a e) es in
    let two = and-yes (val a s) (val e s) in
    (λ h. let p = ih.0 h in let q = two.0 p.0 in (q.0, (q.1, p.1)), λ h. ih.1 (two.1 (h.0, h.1.0), h.1.1))

pub all-yes : (s : Scope) (es : List Tree) → is_true (val (all_of es) s) ↔ AllYes s es
all-yes s [] = (λ h. tt, λ h. refl)
all-yes s (e ∷ es) = joined_and s e es

joined_or : (s : Scope) (a : Tree) (es : List Tree) → is_true (val (joined_by infixs.Or a es) s) ↔ (is_true (val a s) ⊎ SomeYes s es)
joined_or s a [] = (λ h. inl h, ⊎_elim (λ h. h) (λ h. absurd h))
joined_or s a (e ∷ es) =
    let ih = joined_or s (binary infixs.Or a e) es in
    let two = or-yes (val a s) (val e s) in (
      λ h. ⊎_elim (λ k. ⊎_elim (λ p. inl p) (λ p. inr (inl p)) (two.0 k)) (λ k. inr (inr k)) (ih.0 h),
      λ h. ih.1 (⊎_elim (λ p. inl (two.1 (inl p))) (⊎_elim (λ p. inl (two.1 (inr p))) (λ k. inr k)) h),
    )

pub any-yes : (s : Scope) (es : List Tree) → is_true (val (any_of es) s) ↔ SomeYes s es
any-yes s [] = (λ h. absurd (cc), λ h. absurd h)
any-yes s (e ∷ es) = joined_or s e es

pub all_append : (s : Scope) (as' bs : List Tree) → AllYes s (as' ++ bs) ↔ (AllYes s as' × AllYes s bs)
all_append s [] bs = (λ h. (tt, h), λ h. h.1)
all_append s (a ∷ as') bs =
    let ih = all_append s as' bs in
    (λ h. let p = ih.0 h.1 in ((h.0, p.0), p.1), λ h. (h.0.0, ih.1 (h.0.1, h.1)))

both_true : (a b : Option Bool) → (both (λ p q. Some (p && q)) a b ≡ Some true) ↔ ((a ≡ Some true) × (b ≡ Some true))
both_true None b = (λ h. absurd (cc), λ h. absurd (let e = h.0 in cc))
both_true (Some p) None = (λ h. absurd (cc), λ h. absurd (let e = h.1 in cc))
both_true (Some true) (Some q) = (λ h. (refl, h), λ h. h.1)
both_true (Some false) (Some q) = (λ h. absurd (cc), λ h. absurd (let e = h.0 in cc))

same_true : (o p : Option Data) → (both (λ v w. Some (same_data v w)) o p ≡ Some true) ↔ ((v : Data) × (o ≡ Some v) × (p ≡ Some v))
same_true None p = (λ h. absurd (cc), λ h. absurd (let e = h.1 in cc))
same_true (Some v) None = (λ h. absurd (cc), λ h. absurd (let e = h.2 in cc))
same_true (Some v) (Some w) =
    (λ h. (v, refl, ap Some (sym (same_of v w (same_Some (same_data v w) true h)))), λ h. ap Some (subst (λ x. same_data v x ≡ true) (same_Some v h.0 h.1 ∙ sym (same_Some w h.0 h.2)) (same_itself v)))

-- each of these variables has one value in both states
abbrev pub AllSame : Vars → Vars → List Name → Type 0
AllSame now next [] = Unit {0}
AllSame now next (x ∷ xs) = ((v : Data) × (find x now ≡ Some v) × (find x next ≡ Some v)) × AllSame now next xs

pub same-yes : (now next : Vars) (xs : List Name) → (same_variables xs now next ≡ Some true) ↔ AllSame now next xs
same-yes now next [] = (λ h. tt, λ h. refl)
same-yes now next (x ∷ xs) =
    iff_then (both_true (same_variable now next x) (same_variables xs now next))
    (pair_iff (same_true (find x now) (find x next)) (same-yes now next xs))

-- a place in a list of members
contains_place : (v : Data) (ms : List Data) → contains v ms ≡ true → Contains ms v
contains_place v [] h = absurd (cc)
contains_place v (m ∷ ms) h = go (contains_cases v m ms h) (contains_place v ms)
  where
    go : (v ≡ m) ⊎ (contains v ms ≡ true) → (contains v ms ≡ true → Contains ms v) → Contains (m ∷ ms) v
    go (inl e) r = (0, omega arith, sym e)
    go (inr k) r = let p = r k in (suc p.0, omega (arith, p.1), p.2)

place_contains : (v : Data) (ms : List Data) (k : ℕ) → k < length ms → get_or ms k v ≡ v → contains v ms ≡ true
place_contains v [] k h e = absurd (omega arith)
place_contains v (m ∷ ms) zero h e = contains_first v m ms (sym e)
place_contains v (m ∷ ms) (suc k) h e = contains_later v m ms (place_contains v ms k (omega arith) e)

member_cases : (v : Data) (o : Option (List Data)) → (option_map (contains v) o ≡ Some true) ↔ ((ms : List Data) × (o ≡ Some ms) × Contains ms v)
member_cases v None = (λ h. absurd (cc), λ h. absurd (let e = h.1 in cc))
member_cases v (Some ms) = (
  λ h. (ms, refl, contains_place v ms (same_Some (contains v ms) true h)),
  λ h. ap Some (place_contains v ms h.2.0 (subst (λ l. h.2.0 < length l) (sym (same_Some ms h.0 h.1)) h.2.1) (subst (λ l. get_or l h.2.0 v ≡ v) (sym (same_Some ms h.0 h.1)) h.2.2)),
)

member_of : (v : Data) (o : Option Data) → is_member v o ≡ option_map (contains v) (option_and_then members_of o)
member_of v None = refl
member_of v (Some d) = refl

-- a value is in what is a set exactly where it is among the members
pub member-yes : (v : Data) (o : Option Data) → (is_member v o ≡ Some true) ↔ ((ms : List Data) × (option_and_then members_of o ≡ Some ms) × Contains ms v)
member-yes v o = subst (λ b. (b ≡ Some true) ↔ ((ms : List Data) × (option_and_then members_of o ≡ Some ms) × Contains ms v)) (sym (member_of v o)) (member_cases v (option_and_then members_of o))
