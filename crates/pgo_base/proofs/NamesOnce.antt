-- Variables of which no two have one name.
use Rattle.std.proofs.Common.{◌≡◌, ℕ, zero, suc, Bool, true, false, List, [], ◌∷◌, map, set, slice_get, get_or, drop, drop-cons, add-one, length, ◌+◌, ◌<◌, inl, inr, refl, ap, sym, ◌∙◌, subst}
use Rattle.std.specs.Prelude.{if◌then◌else◌, cond, Option, Some, None, option_map, take, is_some}
use Rattle.pgo_base.specs.declared.value.Value.{Value}
use Rattle.pgo_base.specs.Data.{Data}
use Rattle.pgo_base.specs.Lists.{IsAmong, StandOnce}
use Rattle.pgo_base.specs.Lookup.{Name, Vars, same_name, find}
use Rattle.pgo_base.specs.SameName.{same_name-is, same_name-self}
use Rattle.pgo_base.specs.States.{name_in, IsKnown, first_place}
use Rattle.pgo_base.specs.View.{data_of, named_data}

among_at : (vs : Vars) (i : ℕ) (p : Name × Data) → slice_get vs i ≡ Some p → IsAmong p.0 (map name_in vs)
among_at [] i p h = absurd (cc)
among_at (q ∷ vs) zero p h = inl (let e : q ≡ p = cc in ap name_in (sym e))
among_at (q ∷ vs) (suc i) p h = inr (among_at vs i p h)

found_once : (vs : Vars) (i : ℕ) (p : Name × Data) → StandOnce (map name_in vs) → slice_get vs i ≡ Some p → find p.0 vs ≡ Some p.1
found_once [] i p o h = absurd (cc)
found_once (q ∷ vs) zero p o h =
    let e : q ≡ p = cc in
    subst (λ r. find r.0 (q ∷ vs) ≡ Some r.1) e (ap (λ (b : Bool). if b then Some q.1 else find q.0 vs) (same_name-self q.0))
found_once (q ∷ vs) (suc i) p o h = go (same_name p.0 q.0) refl (found_once vs i p o.1 h)
  where
    go : (b : Bool) → same_name p.0 q.0 ≡ b → find p.0 vs ≡ Some p.1 → (if b then Some q.1 else find p.0 vs) ≡ Some p.1
    go true e k = absurd (o.0 (subst (λ x. IsAmong x (map name_in vs)) (same_name-is p.0 q.0 e) (among_at vs i p h)))
    go false e k = k

of_known : (b : Bool) (vs : Vars) → IsKnown b vs → b ≡ true → StandOnce (map name_in vs)
of_known true vs h e = h
of_known false vs h e = absurd (cc)

item_at : (vs : List (Name × Value)) (i : ℕ) (p : Name × Value) → slice_get vs i ≡ Some p → slice_get (map named_data vs) i ≡ Some (named_data p)
item_at [] i p h = absurd (cc)
item_at (q ∷ vs) zero p h = let e : q ≡ p = cc in ap (λ r. Some (named_data r)) e
item_at (q ∷ vs) (suc i) p h = item_at vs i p h

-- what stands at the place of a variable that has the name
pub named_at : (vs : List (Name × Value)) (i : ℕ) (p : Name × Value) (x : Name) → slice_get vs i ≡ Some p → same_name x p.0 ≡ true → slice_get (map named_data vs) i ≡ Some (x, data_of p.1)
named_at vs i p x h n = item_at vs i p h ∙ ap (λ y. Some (y, data_of p.1)) (sym (same_name-is x p.0 n))

-- where names are known to be different, a variable is found at each place that has its name
pub found_at : (b : Bool) (vs : List (Name × Value)) (i : ℕ) (p : Name × Value) (x : Name) → IsKnown b (map named_data vs) → b ≡ true → slice_get vs i ≡ Some p → same_name x p.0 ≡ true → find x (map named_data vs) ≡ Some (data_of p.1)
found_at b vs i p x k e h n =
    ap (λ y. find y (map named_data vs)) (same_name-is x p.0 n) ∙ found_once (map named_data vs) i (named_data p) (of_known b (map named_data vs) k e) (item_at vs i p h)

first_once : (vs : Vars) (i : ℕ) (p : Name × Data) → StandOnce (map name_in vs) → slice_get vs i ≡ Some p → first_place p.0 vs ≡ Some i
first_once [] i p o h = absurd (cc)
first_once (q ∷ vs) zero p o h =
    let e : q ≡ p = cc in
    subst (λ r. first_place r.0 (q ∷ vs) ≡ Some 0) e (ap (λ (b : Bool). if b then Some 0 else option_map suc (first_place q.0 vs)) (same_name-self q.0))
first_once (q ∷ vs) (suc i) p o h = go (same_name p.0 q.0) refl (first_once vs i p o.1 h)
  where
    go : (b : Bool) → same_name p.0 q.0 ≡ b → first_place p.0 vs ≡ Some i → (if b then Some 0 else option_map suc (first_place p.0 vs)) ≡ Some (suc i)
    go true e k = absurd (o.0 (subst (λ x. IsAmong x (map name_in vs)) (same_name-is p.0 q.0 e) (among_at vs i p h)))
    go false e k = ap (option_map suc) k

-- and is the first of its name there
pub first_at : (b : Bool) (vs : List (Name × Value)) (i : ℕ) (p : Name × Value) (x : Name) → IsKnown b (map named_data vs) → b ≡ true → slice_get vs i ≡ Some p → same_name x p.0 ≡ true → first_place x (map named_data vs) ≡ Some i
first_at b vs i p x k e h n =
    ap (λ y. first_place y (map named_data vs)) (same_name-is x p.0 n) ∙ first_once (map named_data vs) i (named_data p) (of_known b (map named_data vs) k e) (item_at vs i p h)

-- where the name is none of those before a place, and stands there, it stands there first
pub first_here : (vs : List (Name × Value)) (i : ℕ) (p : Name × Value) (x : Name) → first_place x (map named_data (take i vs)) ≡ None → slice_get vs i ≡ Some p → same_name x p.0 ≡ true → first_place x (map named_data vs) ≡ Some i
first_here [] i p x f h n = absurd (cc)
first_here (q ∷ vs) zero p x f h n =
    let e : p ≡ q = cc in
    ap (λ (b : Bool). if b then Some 0 else option_map suc (first_place x (map named_data vs))) (ap (λ (r : Name × Value). same_name x r.0) (sym e) ∙ n)
first_here (q ∷ vs) (suc i) p x f h n = go (same_name x q.0) (first_place x (map named_data (take i vs))) refl f (λ g. first_here vs i p x g h n)
  where
    go : (b : Bool) (o : Option ℕ) → first_place x (map named_data (take i vs)) ≡ o → (if b then Some 0 else option_map suc o) ≡ None → (first_place x (map named_data (take i vs)) ≡ None → first_place x (map named_data vs) ≡ Some i) → (if b then Some 0 else option_map suc (first_place x (map named_data vs))) ≡ Some (suc i)
    go true o e g ih = absurd (cc)
    go false None e g ih = ap (option_map suc) (ih e)
    go false (Some j) e g ih = absurd (cc)

-- one more that hasn't the name
pub first_more : (vs : List (Name × Value)) (i : ℕ) (p : Name × Value) (x : Name) → first_place x (map named_data (take i vs)) ≡ None → slice_get vs i ≡ Some p → same_name x p.0 ≡ false → first_place x (map named_data (take (suc i) vs)) ≡ None
first_more [] i p x f h n = absurd (cc)
first_more (q ∷ vs) zero p x f h n =
    let e : p ≡ q = cc in
    ap (λ (b : Bool). if b then Some 0 else None) (ap (λ (r : Name × Value). same_name x r.0) (sym e) ∙ n)
first_more (q ∷ vs) (suc i) p x f h n = go (same_name x q.0) (first_place x (map named_data (take i vs))) refl f (λ g. first_more vs i p x g h n)
  where
    go : (b : Bool) (o : Option ℕ) → first_place x (map named_data (take i vs)) ≡ o → (if b then Some 0 else option_map suc o) ≡ None → (first_place x (map named_data (take i vs)) ≡ None → first_place x (map named_data (take (suc i) vs)) ≡ None) → (if b then Some 0 else option_map suc (first_place x (map named_data (take (suc i) vs)))) ≡ None
    go true o e g ih = absurd (cc)
    go false None e g ih = ap (option_map suc) (ih e)
    go false (Some j) e g ih = absurd (cc)

names_set : (vs : List (Name × Value)) (i : ℕ) (q : Name × Value) (w : Value) → q ≡ get_or vs i q → map name_in (map named_data (set vs i (q.0, w))) ≡ map name_in (map named_data vs)
names_set [] i q w h = refl
names_set (p ∷ vs) zero q w h = ap (λ (r : Name × Value). r.0 ∷ map name_in (map named_data vs)) h
names_set (p ∷ vs) (suc i) q w h = ap (λ xs. p.0 ∷ xs) (names_set vs i q w h)

-- another value leaves what is known of the names
pub known_set : (b : Bool) (vs : List (Name × Value)) (i : ℕ) (q : Name × Value) (w : Value) → q ≡ get_or vs i q → IsKnown b (map named_data vs) → IsKnown b (map named_data (set vs i (q.0, w)))
known_set false vs i q w h k = tt
known_set true vs i q w h k = subst StandOnce (sym (names_set vs i q w h)) k

-- another value at a place
pub put_at : (vs : List (Name × Value)) (i : ℕ) (q : Name × Value) (w : Value) (p : Name × Data) → q ≡ get_or vs i q → slice_get (map named_data vs) i ≡ Some p → (data_of q.1 ≡ p.1) × (map named_data (set vs i (q.0, w)) ≡ set (map named_data vs) i (p.0, data_of w))
put_at [] i q w p h e = absurd (cc)
put_at (r ∷ vs) zero q w p h e =
    let t : named_data r ≡ p = cc in
    let u : named_data q ≡ p = ap named_data h ∙ t in
    (ap (λ z. z.1) u, ap (λ z. (z.0, data_of w) ∷ map named_data vs) u)
put_at (r ∷ vs) (suc i) q w p h e = let s = put_at vs i q w p h e in (s.0, ap (λ zs. named_data r ∷ zs) s.1)

-- one before those from a place on
pub drop_step : {A : Type 0} (xs : List A) (i : ℕ) (x : A) → i < length xs → x ≡ get_or xs i x → drop i xs ≡ x ∷ drop (i + 1) xs
drop_step xs i x h e = rw (add-one, drop-cons xs i x, ← e)

-- whether something is noted of a name, where one more is
pub noted_more : {A : Type 0} (b : Bool) (a : A) (o : Option A) → is_some (cond b (Some a) o) ≡ cond b true (is_some o)
noted_more true a o = refl
noted_more false a o = refl

-- what is noted of names covers these names
abbrev pub Covers : (Name → Bool) → List (Name × Value) → Type 0
Covers noted vs = (x : Name) → IsAmong x (map name_in (map named_data vs)) → noted x ≡ true

-- one more before them, with a name that isn't noted
pub one_more : (old new : Name → Bool) (p : Name × Value) (vs : List (Name × Value)) → Covers old vs → old p.0 ≡ false → ((x : Name) → new x ≡ cond (same_name x p.0) true (old x)) → StandOnce (map name_in (map named_data vs)) → Covers new (p ∷ vs) × StandOnce (map name_in (map named_data (p ∷ vs)))
one_more old new p vs c f n o = (covered, (λ m. go (old p.0) refl m, o))
  where
    go : (b : Bool) → old p.0 ≡ b → IsAmong p.0 (map name_in (map named_data vs)) → ⊥
    go b e m = let t : old p.0 ≡ true = c p.0 m in absurd (cc)

    step : (b : Bool) (x : Name) → old x ≡ true → cond b true (old x) ≡ true
    step true x h = refl
    step false x h = h

    covered : Covers new (p ∷ vs)
    covered x (inl e) = n x ∙ ap (λ b. cond b true (old x)) (ap (λ y. same_name y p.0) e ∙ same_name-self p.0)
    covered x (inr m) = n x ∙ step (same_name x p.0) x (c x m)
