-- Sums over lists that change at one place, and holdings in a list.
use Rattle.std.proofs.Common.{◌≡◌, ℕ, zero, suc, ◌+◌, ◌<◌, ◌≤◌, ◌≢◌, ◌⊎◌, Bool, true, false, List, [], ◌∷◌, ◌++◌, Option, None, Some, set, sym, refl, ap, ◌∙◌, subst, inl, inr, ⊎_elim, arith}
use Rattle.std.proofs.lemmas.Option.{same_Some}
use Rattle.std.specs.Prelude.{if◌then◌else◌, nat_eq, nat_lt}
use mathlib.Core.Option.{some, some-injective, some-ne-none}
use lib.ListN.{get_elem?}
use Rattle.atomic_table.proofs.Lists.{at_set}
use Rattle.pgo_workers.specs.Closed.{Has}
use Rattle.pgo_workers.specs.View.{stretch, changed}
use Rattle.pgo_workers.specs.Walk.{At, Agrees}
use Rattle.pgo_base.specs.Data.{Data}
use Rattle.pgo_model.specs.Machine.{among}
use Rattle.pgo_resource.specs.PlainRows.{apart}
use Rattle.pgo_resource.proofs.PlainPlaces.{apart_parts, apart_made}
use Rattle.pgo_table.specs.SeatViews.{Holding, holding, History, SeatView, HasHistory, holding_at, without, values, resources, renewed, total, bit, numbered, tells, claims, stands, cap}

pub eq_is : (a b : ℕ) → nat_eq a b ≡ true → a ≡ b
eq_is a b e = grind (arith, e)

pub is_eq : (a b : ℕ) → a ≡ b → nat_eq a b ≡ true
is_eq a b e = grind (arith, e)

pub not_eq : (a b : ℕ) → a ≢ b → nat_eq a b ≡ false
not_eq a b n = go (nat_eq a b) refl
  where
    go : (t : Bool) → nat_eq a b ≡ t → nat_eq a b ≡ false
    go true e = absurd (n (eq_is a b e))
    go false e = e

pub eq_not : (a b : ℕ) → nat_eq a b ≡ false → a ≢ b
eq_not a b n e = grind (arith, n, e)

-- two numbers are one or two
pub same_or : (a b : ℕ) → (a ≡ b) ⊎ (a ≢ b)
same_or a b = go (nat_eq a b) refl
  where
    go : (t : Bool) → nat_eq a b ≡ t → (a ≡ b) ⊎ (a ≢ b)
    go true e = inl (eq_is a b e)
    go false e = inr (eq_not a b e)

module _ {A : Type 0} (g : A → ℕ) where
  pub total-append : (l m : List A) → total g (l ++ m) ≡ total g l + total g m
  total-append [] m = omega arith
  total-append (x ∷ xs) m = omega (arith, total-append xs m)

  pub total-set : (l : List A) (j : ℕ) (v w : A) → get_elem? l j ≡ some v → total g (set l j w) + g v ≡ total g l + g w
  total-set [] j v w e = absurd (some-ne-none v (sym e))
  total-set (x ∷ xs) zero v w e = omega (arith, ap g (some-injective x v e))
  total-set (x ∷ xs) (suc j) v w e = omega (arith, total-set xs j v w e)

  pub term_le : (l : List A) (j : ℕ) (v : A) → get_elem? l j ≡ some v → g v ≤ total g l
  term_le [] j v e = absurd (some-ne-none v (sym e))
  term_le (x ∷ xs) zero v e = omega (arith, ap g (some-injective x v e))
  term_le (x ∷ xs) (suc j) v e = omega (arith, term_le xs j v e)

  pub terms_le : (l : List A) (j k : ℕ) (v u : A) → k ≢ j → get_elem? l j ≡ some v → get_elem? l k ≡ some u → g v + g u ≤ total g l
  terms_le [] j k v u n e d = absurd (some-ne-none v (sym e))
  terms_le (x ∷ xs) zero zero v u n e d = absurd (n refl)
  terms_le (x ∷ xs) zero (suc k) v u n e d = omega (arith, ap g (some-injective x v e), term_le xs k u d)
  terms_le (x ∷ xs) (suc j) zero v u n e d = omega (arith, ap g (some-injective x u d), term_le xs j v e)
  terms_le (x ∷ xs) (suc j) (suc k) v u n e d = omega (arith, terms_le xs j k v u (λ h. n (ap suc h)) e d)

  pub member_le : (l : List A) (x : A) → Has l x → g x ≤ total g l
  member_le [] x h = absurd h
  member_le (y ∷ l) x (inl e) = omega (arith, ap g e)
  member_le (y ∷ l) x (inr h) = omega (arith, member_le l x h)

pub has_left : {A : Type 0} (a b : List A) (x : A) → Has a x → Has (a ++ b) x
has_left [] b x h = absurd h
has_left (y ∷ a) b x (inl h) = inl h
has_left (y ∷ a) b x (inr h) = inr (has_left a b x h)

pub has_right : {A : Type 0} (a b : List A) (x : A) → Has b x → Has (a ++ b) x
has_right [] b x h = h
has_right (y ∷ a) b x h = inr (has_right a b x h)

pub has_either : {A : Type 0} (a b : List A) (x : A) → Has (a ++ b) x → Has a x ⊎ Has b x
has_either [] b x h = inr h
has_either (y ∷ a) b x (inl h) = inl (inl h)
has_either (y ∷ a) b x (inr h) = ⊎_elim (λ z. inl (inr z)) (λ z. inr z) (has_either a b x h)

pub has_last : {A : Type 0} (a : List A) (x : A) → Has (a ++ x ∷ []) x
has_last a x = has_right a (x ∷ []) x (inl refl)

pub has_snoc : {A : Type 0} (a : List A) (y x : A) → Has (a ++ y ∷ []) x → Has a x ⊎ (y ≡ x)
has_snoc a y x h = ⊎_elim (λ z. inl z) (λ z. inr (⊎_elim (λ e. e) (λ n. absurd n) z)) (has_either a (y ∷ []) x h)

-- ---- places in a list

pub set_here_of : {A : Type 0} (l : List A) (i : ℕ) (a v : A) → get_elem? l i ≡ some v → get_elem? (set l i a) i ≡ some a
set_here_of [] i a v e = absurd (some-ne-none v (sym e))
set_here_of (x ∷ xs) zero a v e = refl
set_here_of (x ∷ xs) (suc i) a v e = set_here_of xs i a v e

-- a fact of each view lasts when one changes and keeps it
pub all_set : {A : Type 0} (views : List A) (id : ℕ) (w : A) (P : ℕ → A → Type 0) → P id w → ((j : ℕ) (u : A) → j ≢ id → get_elem? views j ≡ some u → P j u) → (j : ℕ) (u : A) → get_elem? (set views id w) j ≡ some u → P j u
all_set views id w P here far j u at = ⊎_elim (λ t. subst (λ k. P k u) (sym t.0) (subst (P id) t.1 here)) (λ t. far j u t.0 t.1) (at_set views id j w u at)

-- ---- holdings

pub at-other : (hs : List Holding) (h : Holding) (r : ℕ) → h.resource ≢ r → holding_at (hs ++ h ∷ []) r ≡ holding_at hs r
at-other [] h r ne = ap (λ b. if b then Some h else None) (not_eq h.resource r ne)
at-other (x ∷ xs) h r ne = ap (λ o. if nat_eq x.resource r then Some x else o) (at-other xs h r ne)

none_some : {A : Type 0} (x : A) → Some x ≡ None → ⊥
none_some x e = grind (arith, e)

pub not_some : {A : Type 0} (o : Option A) (x : A) → o ≡ None → o ≡ Some x → ⊥
not_some o x n s = none_some x (sym s ∙ n)

pub at-new : (hs : List Holding) (h : Holding) (r : ℕ) → h.resource ≡ r → holding_at hs r ≡ None → holding_at (hs ++ h ∷ []) r ≡ Some h
at-new [] h r e none = ap (λ b. if b then Some h else None) (is_eq h.resource r e)
at-new (x ∷ xs) h r e none = go (nat_eq x.resource r) none (λ n. at-new xs h r e n)
  where
    go : (b : Bool) → (if b then Some x else holding_at xs r) ≡ None → (holding_at xs r ≡ None → holding_at (xs ++ h ∷ []) r ≡ Some h) → (if b then Some x else holding_at (xs ++ h ∷ []) r) ≡ Some h
    go true n ih = absurd (none_some x n)
    go false n ih = ih n

pub without-same : (hs : List Holding) (r : ℕ) → holding_at (without hs r) r ≡ None
without-same [] r = refl
without-same (x ∷ xs) r = go (nat_eq x.resource r) refl (without-same xs r)
  where
    go : (b : Bool) → nat_eq x.resource r ≡ b → holding_at (without xs r) r ≡ None → holding_at (if b then without xs r else x ∷ without xs r) r ≡ None
    go true e ih = ih
    go false e ih = ap (λ b. if b then Some x else holding_at (without xs r) r) e ∙ ih

pub without-other : (hs : List Holding) (r k : ℕ) → k ≢ r → holding_at (without hs r) k ≡ holding_at hs k
without-other [] r k n = refl
without-other (x ∷ xs) r k n = go (nat_eq x.resource r) refl (without-other xs r k n)
  where
    go : (b : Bool) → nat_eq x.resource r ≡ b → holding_at (without xs r) k ≡ holding_at xs k → holding_at (if b then without xs r else x ∷ without xs r) k ≡ (if nat_eq x.resource k then Some x else holding_at xs k)
    go true e ih = ih ∙ sym (ap (λ b. if b then Some x else holding_at xs k) (not_eq x.resource k (λ s. n (sym s ∙ eq_is x.resource r e))))
    go false e ih = ap (λ o. if nat_eq x.resource k then Some x else o) ih

pub resource_is : (hs : List Holding) (r : ℕ) (h : Holding) → holding_at hs r ≡ Some h → h.resource ≡ r
resource_is [] r h at = absurd (not_some None h refl at)
resource_is (x ∷ xs) r h at = go (nat_eq x.resource r) refl at (λ e. resource_is xs r h e)
  where
    go : (b : Bool) → nat_eq x.resource r ≡ b → (if b then Some x else holding_at xs r) ≡ Some h → (holding_at xs r ≡ Some h → h.resource ≡ r) → h.resource ≡ r
    go true e at ih = ap (λ (y : Holding). y.resource) (sym (same_Some x h at)) ∙ eq_is x.resource r e
    go false e at ih = ih at

pub renewed-none : (cs : List At) (hs : List Holding) (r : ℕ) → holding_at hs r ≡ None → holding_at (renewed cs hs) r ≡ None
renewed-none cs [] r at = refl
renewed-none cs (x ∷ xs) r at = go (nat_eq x.resource r) at (λ n. renewed-none cs xs r n)
  where
    go : (b : Bool) → (if b then Some x else holding_at xs r) ≡ None → (holding_at xs r ≡ None → holding_at (renewed cs xs) r ≡ None) → (if b then Some (holding x.resource (changed cs x.resource x.value) x.count) else holding_at (renewed cs xs) r) ≡ None
    go true n ih = absurd (none_some x n)
    go false n ih = ih n

pub renewed-some : (cs : List At) (hs : List Holding) (r : ℕ) (h : Holding) → holding_at hs r ≡ Some h → holding_at (renewed cs hs) r ≡ Some (holding h.resource (changed cs h.resource h.value) h.count)
renewed-some cs [] r h at = absurd (not_some None h refl at)
renewed-some cs (x ∷ xs) r h at = go (nat_eq x.resource r) at (λ e. renewed-some cs xs r h e)
  where
    next : Holding → Holding
    next y = holding y.resource (changed cs y.resource y.value) y.count

    go : (b : Bool) → (if b then Some x else holding_at xs r) ≡ Some h → (holding_at xs r ≡ Some h → holding_at (renewed cs xs) r ≡ Some (holding h.resource (changed cs h.resource h.value) h.count))
        → (if b then Some (holding x.resource (changed cs x.resource x.value) x.count) else holding_at (renewed cs xs) r) ≡ Some (holding h.resource (changed cs h.resource h.value) h.count)
    go true at ih = ap (λ (y : Holding). Some (holding y.resource (changed cs y.resource y.value) y.count)) (same_Some x h at)
    go false at ih = ih at

-- ---- pairs that were passed

pub stands-append : (r n : ℕ) (ps qs : List (ℕ × ℕ)) → stands r n (ps ++ qs) ≡ stands r n ps + stands r n qs
stands-append r n ps qs = total-append (λ (p : ℕ × ℕ). if nat_eq p.0 r then bit (nat_eq p.1 n) else 0) ps qs

pub stretch-other : (r k n from many : ℕ) → k ≢ r → stands k n (stretch r from many) ≡ 0
stretch-other r k n from zero ne = refl
stretch-other r k n from (suc many) ne = omega (arith, ap (λ b. if b then bit (nat_eq (suc from) n) else 0) (not_eq r k (λ e. ne (sym e))), stretch-other r k n (suc from) many ne)

pub stretch-within : (r n from many : ℕ) → (stands r n (stretch r from many) ≤ 1) × (n ≤ from → stands r n (stretch r from many) ≡ 0) × (from + many < n → stands r n (stretch r from many) ≡ 0)
stretch-within r n from zero = (omega arith, (λ _. refl), λ _. refl)
stretch-within r n from (suc many) =
    let after = stretch-within r n (suc from) many in
    let one : (if nat_eq r r then bit (nat_eq (suc from) n) else 0) ≡ bit (nat_eq (suc from) n) = ap (λ b. if b then bit (nat_eq (suc from) n) else 0) (is_eq r r refl) in
    ⊎_elim
    (λ (e : suc from ≡ n). let b = ap bit (is_eq (suc from) n e) in let z = after.1 (omega (arith, e)) in (omega (arith, z, b, one), (λ h. absurd (omega (arith, e, h))), λ h. absurd (omega (arith, e, h))))
    (λ (ne : suc from ≢ n). let b = ap bit (not_eq (suc from) n ne) in (
      omega (arith, after.0, b, one),
      (λ h. let z = after.1 (omega (arith, h)) in omega (arith, z, b, one)),
      λ h. let z = after.2 (omega (arith, h)) in omega (arith, z, b, one),
    ))
    (same_or (suc from) n)

-- ---- numbers

pub cap_below : (n x : ℕ) → 1 ≤ cap n x → x < n
cap_below n x h = go (nat_lt x n) refl h
  where
    go : (b : Bool) → nat_lt x n ≡ b → 1 ≤ bit b → x < n
    go true e h = grind (arith, e)
    go false e h = absurd (omega (arith, h))

pub cap_most : (n x : ℕ) → cap n x ≤ 1
cap_most n x = go (nat_lt x n)
  where
    go : (b : Bool) → bit b ≤ 1
    go true = omega arith
    go false = omega arith

pub bit_most : (b : Bool) → bit b ≤ 1
bit_most true = omega arith
bit_most false = omega arith

pub bit_one : (x y : ℕ) → x ≡ y → bit (nat_eq x y) ≡ 1
bit_one x y e = ap bit (is_eq x y e)

-- a view that knows something under a number has that number
pub tells_history : (v : SeatView) (a : History) → HasHistory v a → 1 ≤ tells a.number v
tells_history v a (inl k) =
    let g : (if v.gone then 0 else bit (nat_eq v.me.number a.number)) ≡ bit (nat_eq v.me.number a.number) = ap (λ b. if b then 0 else bit (nat_eq v.me.number a.number)) k.0 in
    let b = bit_one v.me.number a.number (ap (λ (x : History). x.number) k.1) in omega (arith, g, b)
tells_history v a (inr h) = let m = member_le (λ (x : History). bit (nat_eq x.number a.number)) v.joined a h in let b = bit_one a.number a.number refl in omega (arith, m, b)

pub claims_history : (v : SeatView) (a : History) → HasHistory v a → 1 ≤ claims a.number v
claims_history v a k = let t = tells_history v a k in omega (arith, t)

-- what is known under a seat's own number, beside what it itself knows, is known twice
pub tells_twice : (v : SeatView) (a : History) → v.gone ≡ false → Has v.joined a → a.number ≡ v.me.number → 2 ≤ tells v.me.number v
tells_twice v a live h same =
    let g : (if v.gone then 0 else bit (nat_eq v.me.number v.me.number)) ≡ bit (nat_eq v.me.number v.me.number) = ap (λ b. if b then 0 else bit (nat_eq v.me.number v.me.number)) live in
    let b = bit_one v.me.number v.me.number refl in
    let m = member_le (λ (x : History). bit (nat_eq x.number v.me.number)) v.joined a h in let c = bit_one a.number v.me.number same in omega (arith, g, b, m, c)

-- ---- what is held, once each

pub resources_push : (hs : List Holding) (h : Holding) → resources (hs ++ h ∷ []) ≡ resources hs ++ h.resource ∷ []
resources_push [] h = refl
resources_push (x ∷ hs) h = ap (λ l. x.resource ∷ l) (resources_push hs h)

pub not_among : (hs : List Holding) (r : ℕ) → holding_at hs r ≡ None → among r (resources hs) ≡ false
not_among [] r none = refl
not_among (x ∷ hs) r none = go (nat_eq x.resource r) refl none (λ n. not_among hs r n)
  where
    go : (b : Bool) → nat_eq x.resource r ≡ b → (if b then Some x else holding_at hs r) ≡ None → (holding_at hs r ≡ None → among r (resources hs) ≡ false) → (if nat_eq r x.resource then true else among r (resources hs)) ≡ false
    go true e n ih = absurd (none_some x n)
    go false e n ih = ap (λ b. if b then true else among r (resources hs)) (not_eq r x.resource (λ s. eq_not x.resource r e (sym s))) ∙ ih n

pub is_among : (hs : List Holding) (r : ℕ) (h : Holding) → holding_at hs r ≡ Some h → among r (resources hs) ≡ true
is_among [] r h at = absurd (not_some None h refl at)
is_among (x ∷ hs) r h at = go (nat_eq x.resource r) refl at (λ e. is_among hs r h e)
  where
    go : (b : Bool) → nat_eq x.resource r ≡ b → (if b then Some x else holding_at hs r) ≡ Some h → (holding_at hs r ≡ Some h → among r (resources hs) ≡ true) → (if nat_eq r x.resource then true else among r (resources hs)) ≡ true
    go true e at ih = ap (λ b. if b then true else among r (resources hs)) (is_eq r x.resource (sym (eq_is x.resource r e)))
    go false e at ih = ap (λ b. if b then true else among r (resources hs)) (not_eq r x.resource (λ s. eq_not x.resource r e (sym s))) ∙ ih at

pub among_without : (q r : ℕ) (hs : List Holding) → among q (resources hs) ≡ false → among q (resources (without hs r)) ≡ false
among_without q r [] out = refl
among_without q r (x ∷ hs) out = go (nat_eq x.resource r) (nat_eq q x.resource) refl out (λ o. among_without q r hs o)
  where
    go : (a b : Bool) → nat_eq q x.resource ≡ b → (if b then true else among q (resources hs)) ≡ false → (among q (resources hs) ≡ false → among q (resources (without hs r)) ≡ false) → among q (resources (if a then without hs r else x ∷ without hs r)) ≡ false
    go a true e o ih = absurd (bools_apart o)
      where
        bools_apart : true ≡ false → ⊥
        bools_apart z = grind (arith, z)
    go true false e o ih = ih o
    go false false e o ih = ap (λ b. if b then true else among q (resources (without hs r))) e ∙ ih o

pub apart_without : (n r : ℕ) (hs : List Holding) → apart n (resources hs) ≡ true → apart n (resources (without hs r)) ≡ true
apart_without n r [] a = a
apart_without n r (x ∷ hs) a = let p = apart_parts n x.resource (resources hs) a in go (nat_eq x.resource r) p.0 p.1 (apart_without n r hs p.2)
  where
    go : (b : Bool) → x.resource < n → among x.resource (resources hs) ≡ false → apart n (resources (without hs r)) ≡ true → apart n (resources (if b then without hs r else x ∷ without hs r)) ≡ true
    go true near out ih = ih
    go false near out ih = apart_made n x.resource (resources (without hs r)) near (among_without x.resource r hs out) ih

pub resources_renewed : (cs : List At) (hs : List Holding) → resources (renewed cs hs) ≡ resources hs
resources_renewed cs [] = refl
resources_renewed cs (x ∷ hs) = ap (λ l. x.resource ∷ l) (resources_renewed cs hs)

-- where each holding's value is the component, all agree
pub agrees_each : (n : ℕ) (hs : List Holding) (f : ℕ → Data) → apart n (resources hs) ≡ true → ((r : ℕ) (h : Holding) → holding_at hs r ≡ Some h → f r ≡ h.value) → Agrees (values hs) f
agrees_each n [] f a each = tt
agrees_each n (x ∷ hs) f a each =
    let p = apart_parts n x.resource (resources hs) a in (
      each x.resource x (ap (λ b. if b then Some x else holding_at hs x.resource) (is_eq x.resource x.resource refl)),
      agrees_each n hs f p.2 (λ r h at. each r h (ap (λ b. if b then Some x else holding_at hs r) (not_eq x.resource r (λ e. apart_two (subst (λ q. among q (resources hs) ≡ true) (sym e) (is_among hs r h at)) p.1)) ∙ at)),
    )
  where
    apart_two : among x.resource (resources hs) ≡ true → among x.resource (resources hs) ≡ false → ⊥
    apart_two t f = grind (arith, t, f)

apart_near : (n r : ℕ) (rs : List ℕ) → apart n rs ≡ true → among r rs ≡ true → r < n
apart_near n r [] a h = absurd (grind (arith, h))
apart_near n r (q ∷ rs) a h = let m = apart_parts n q rs a in go (nat_eq r q) refl h m.0 (λ h. apart_near n r rs m.2 h)
  where
    go : (b : Bool) → nat_eq r q ≡ b → (if b then true else among r rs) ≡ true → q < n → (among r rs ≡ true → r < n) → r < n
    go true e h near more = subst (λ x. x < n) (sym (eq_is r q e)) near
    go false e h near more = more h

pub near_of : (n : ℕ) (hs : List Holding) (r : ℕ) (h : Holding) → apart n (resources hs) ≡ true → holding_at hs r ≡ Some h → r < n
near_of n hs r h a at = apart_near n r (resources hs) a (is_among hs r h at)

-- ---- who has something

pub found_at : {A : Type 0} (g : A → ℕ) (l : List A) → 1 ≤ total g l → (j : ℕ) × (v : A) × (get_elem? l j ≡ some v) × (1 ≤ g v)
found_at g [] h = absurd (omega (arith, h))
found_at {A} g (x ∷ l) h = go (g x) refl (λ h. found_at g l h)
  where
    go : (n : ℕ) → g x ≡ n → (1 ≤ total g l → (j : ℕ) × (v : A) × (get_elem? l j ≡ some v) × (1 ≤ g v)) → (j : ℕ) × (v : A) × (get_elem? (x ∷ l) j ≡ some v) × (1 ≤ g v)
    go zero e ih = let q = ih (omega (arith, h, e)) in (suc q.0, q.1, q.2, q.3)
    go (suc n) e ih = (zero, x, refl, omega (arith, e))

pub history_at : (x : ℕ) (l : List History) → 1 ≤ numbered x l → (a : History) × Has l a × (a.number ≡ x)
history_at x [] h = absurd (omega (arith, h))
history_at x (a ∷ l) h = go (nat_eq a.number x) refl h (λ h. history_at x l h)
  where
    go : (b : Bool) → nat_eq a.number x ≡ b → 1 ≤ bit b + numbered x l → (1 ≤ numbered x l → (a : History) × Has l a × (a.number ≡ x)) → (c : History) × Has (a ∷ l) c × (c.number ≡ x)
    go true e h ih = (a, inl refl, eq_is a.number x e)
    go false e h ih = let q = ih (omega (arith, h)) in (q.0, inr q.1, q.2)

pub tells_some : (x : ℕ) (v : SeatView) → 1 ≤ tells x v → (a : History) × HasHistory v a × (a.number ≡ x)
tells_some x v h = go v.gone refl (nat_eq v.me.number x) refl h
  where
    go : (g : Bool) → v.gone ≡ g → (b : Bool) → nat_eq v.me.number x ≡ b → 1 ≤ (if g then 0 else bit b) + numbered x v.joined → (a : History) × HasHistory v a × (a.number ≡ x)
    go false e true f h = (v.me, inl (e, refl), eq_is v.me.number x f)
    go false e false f h = let q = history_at x v.joined (omega (arith, h)) in (q.0, inr q.1, q.2)
    go true e b f h = let q = history_at x v.joined (omega (arith, h)) in (q.0, inr q.1, q.2)
