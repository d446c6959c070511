-- Lists of resources that are held.
use Rattle.std.proofs.Common.{◌≡◌, ◌<◌, ◌≤◌, ℕ, zero, suc, Bool, true, false, List, [], ◌∷◌, ◌++◌, length, get_or, refl, sym, ap, ◌∙◌, subst, arith, inl, inr}
use Rattle.std.specs.Prelude.{if◌then◌else◌, nat_eq, nat_lt, ◌⊎◌}
use Rattle.std.specs.List.{remove}
use Rattle.pgo_model.specs.Machine.{among}
use Rattle.pgo_resource.specs.declared.taken.Taken.{Taken}
use Rattle.pgo_resource.specs.PlainRows.{taken_of, apart, without_taken, before}
use Rattle.pgo_resource.specs.PlainSets.{eq_turned, among_there}

pub drop_one : ℕ → List ℕ → List ℕ
drop_one n [] = []
drop_one n (x ∷ xs) = if nat_eq x n then xs else x ∷ drop_one n xs

pub apart_parts : (n q : ℕ) (rs : List ℕ) → apart n (q ∷ rs) ≡ true → (q < n) × (among q rs ≡ false) × (apart n rs ≡ true)
apart_parts n q rs h = go (nat_lt q n) (among q rs) refl refl h
  where
    go : (a b : Bool) → nat_lt q n ≡ a → among q rs ≡ b → (if a then if b then false else apart n rs else false) ≡ true → (q < n) × (among q rs ≡ false) × (apart n rs ≡ true)
    go true false a b h = (grind (arith, a), b, h)
    go true true a b h = absurd (grind (arith, h))
    go false b a e h = absurd (grind (arith, h))

pub apart_made : (n q : ℕ) (rs : List ℕ) → q < n → among q rs ≡ false → apart n rs ≡ true → apart n (q ∷ rs) ≡ true
apart_made n q rs near out rest =
    let t : nat_lt q n ≡ true = grind (arith, near) in
    ap (λ b. if b then if among q rs then false else apart n rs else false) t ∙ ap (λ b. if b then false else apart n rs) out ∙ rest

among_made : (r q : ℕ) (rs : List ℕ) → nat_eq q r ≡ false → among r rs ≡ false → among r (q ∷ rs) ≡ false
among_made r q rs n h = ap (λ b. if b then true else among r rs) (eq_turned r q ∙ n) ∙ h

lower : (n : ℕ) (rs : List ℕ) → apart (suc n) rs ≡ true → among n rs ≡ false → apart n rs ≡ true
lower n [] a out = refl
lower n (x ∷ xs) a out = let m = apart_parts (suc n) x xs a in let o = among_there n x xs out in apart_made n x xs (near x m.0 o.0) m.1 (lower n xs m.2 o.1)
  where
    near : (x : ℕ) → x < suc n → nat_eq x n ≡ false → x < n
    near x h e = grind (arith, h, e)

dropped_out : (n r : ℕ) (rs : List ℕ) → among r rs ≡ false → among r (drop_one n rs) ≡ false
unfolding drop_one
dropped_out n r [] out = refl
dropped_out n r (x ∷ xs) out = let o = among_there r x xs out in go (nat_eq x n) o.0 o.1 (dropped_out n r xs o.1)
  where
    go : (b : Bool) → nat_eq x r ≡ false → among r xs ≡ false → among r (drop_one n xs) ≡ false → among r (if b then xs else x ∷ drop_one n xs) ≡ false
    go true e o ih = o
    go false e o ih = among_made r x (drop_one n xs) e ih

drop_lower : (n : ℕ) (rs : List ℕ) → apart (suc n) rs ≡ true → apart n (drop_one n rs) ≡ true
unfolding drop_one
drop_lower n [] a = refl
drop_lower n (x ∷ xs) a = let m = apart_parts (suc n) x xs a in go (nat_eq x n) refl m.0 m.1 m.2 (drop_lower n xs m.2)
  where
    go : (b : Bool) → nat_eq x n ≡ b → x < suc n → among x xs ≡ false → apart (suc n) xs ≡ true → apart n (drop_one n xs) ≡ true → apart n (if b then xs else x ∷ drop_one n xs) ≡ true
    go true e near out rest ih = let same : x ≡ n = grind (arith, e) in lower n xs rest (subst (λ y. among y xs ≡ false) same out)
    go false e near out rest ih = apart_made n x (drop_one n xs) (grind (arith, near, e)) (dropped_out n x xs out) ih

drop_length : (n : ℕ) (rs : List ℕ) → length rs ≤ suc (length (drop_one n rs))
unfolding drop_one
drop_length n [] = omega arith
drop_length n (x ∷ xs) = go (nat_eq x n) (drop_length n xs)
  where
    go : (b : Bool) → length xs ≤ suc (length (drop_one n xs)) → suc (length xs) ≤ suc (length (if b then xs else x ∷ drop_one n xs))
    go true ih = omega arith
    go false ih = omega (arith, ih)

few : (n : ℕ) (rs : List ℕ) → apart n rs ≡ true → length rs ≤ n
few zero [] a = omega arith
few zero (x ∷ xs) a = let m = apart_parts zero x xs a in absurd (omega (arith, m.0))
few (suc n) rs a = omega (arith, few n (drop_one n rs) (drop_lower n rs a), drop_length n rs)

pub room : (n r : ℕ) (rs : List ℕ) → apart n rs ≡ true → r < n → among r rs ≡ false → length rs < n
room n r rs a near out = omega (arith, few n (r ∷ rs) (apart_made n r rs near out a))

pub drop_apart : (n r : ℕ) (rs : List ℕ) → apart n rs ≡ true → apart n (drop_one r rs) ≡ true
unfolding drop_one
drop_apart n r [] a = refl
drop_apart n r (x ∷ xs) a = let m = apart_parts n x xs a in go (nat_eq x r) m.0 m.1 m.2 (drop_apart n r xs m.2)
  where
    go : (b : Bool) → x < n → among x xs ≡ false → apart n xs ≡ true → apart n (drop_one r xs) ≡ true → apart n (if b then xs else x ∷ drop_one r xs) ≡ true
    go true near out rest ih = rest
    go false near out rest ih = apart_made n x (drop_one r xs) near (dropped_out r x xs out) ih

-- what isn't among the others is r, or wasn't there
pub drop_among : (r q : ℕ) (rs : List ℕ) → among q (drop_one r rs) ≡ false → (q ≡ r) ⊎ (among q rs ≡ false)
unfolding drop_one
drop_among r q [] h = inr refl
drop_among r q (x ∷ xs) h = go (nat_eq x r) (nat_eq q x) refl refl h (λ h. drop_among r q xs h)
  where
    add : nat_eq q x ≡ false → (q ≡ r) ⊎ (among q xs ≡ false) → (q ≡ r) ⊎ (among q (x ∷ xs) ≡ false)
    add n (inl e) = inl e
    add n (inr o) = inr (ap (λ b. if b then true else among q xs) n ∙ o)

    go : (b d : Bool) → nat_eq x r ≡ b → nat_eq q x ≡ d → among q (if b then xs else x ∷ drop_one r xs) ≡ false → (among q (drop_one r xs) ≡ false → (q ≡ r) ⊎ (among q xs ≡ false)) → (q ≡ r) ⊎ (among q (x ∷ xs) ≡ false)
    go true true e n h ih = inl (grind (arith, e, n))
    go true false e n h ih = inr (ap (λ b. if b then true else among q xs) n ∙ h)
    go false d e n h ih = let o = among_there q x (drop_one r xs) h in add (eq_turned q x ∙ o.0) (ih o.1)

pub taken_without : (hs : List Taken) (r : ℕ) → taken_of (without_taken hs r) ≡ drop_one r (taken_of hs)
unfolding drop_one
taken_without [] r = refl
taken_without (h ∷ hs) r = go (nat_eq h.resource r) (taken_without hs r)
  where
    go : (b : Bool) → taken_of (without_taken hs r) ≡ drop_one r (taken_of hs) → taken_of (if b then hs else h ∷ without_taken hs r) ≡ (if b then taken_of hs else h.resource ∷ drop_one r (taken_of hs))
    go true e = refl
    go false e = ap (λ l. h.resource ∷ l) e

pub taken_push : (hs : List Taken) (t : Taken) → taken_of (hs ++ t ∷ []) ≡ taken_of hs ++ t.resource ∷ []
taken_push [] t = refl
taken_push (h ∷ hs) t = ap (λ l. h.resource ∷ l) (taken_push hs t)

pub taken_length : (hs : List Taken) → length (taken_of hs) ≡ length hs
taken_length [] = refl
taken_length (h ∷ hs) = ap (λ n. suc n) (taken_length hs)

pub among_push : (q r : ℕ) (rs : List ℕ) → among q (rs ++ r ∷ []) ≡ false → (among q rs ≡ false) × (nat_eq q r ≡ false)
among_push q r [] h = (refl, eq_turned q r ∙ (among_there q r [] h).0)
among_push q r (x ∷ xs) h = let o = among_there q x (xs ++ r ∷ []) h in let m = among_push q r xs o.1 in (among_made q x xs o.0 m.0, m.1)

among_pushed : (q r : ℕ) (rs : List ℕ) → among q rs ≡ false → nat_eq r q ≡ false → among q (rs ++ r ∷ []) ≡ false
among_pushed q r [] h n = among_made q r [] n refl
among_pushed q r (x ∷ xs) h n = let o = among_there q x xs h in among_made q x (xs ++ r ∷ []) o.0 (among_pushed q r xs o.1 n)

pub apart_push : (n r : ℕ) (rs : List ℕ) → apart n rs ≡ true → r < n → among r rs ≡ false → apart n (rs ++ r ∷ []) ≡ true
apart_push n r [] a near out = apart_made n r [] near refl refl
apart_push n r (x ∷ xs) a near out = let m = apart_parts n x xs a in let o = among_there r x xs out in apart_made n x (xs ++ r ∷ []) m.0 (among_pushed x r xs m.1 (eq_turned r x ∙ o.0)) (apart_push n r xs m.2 near o.1)

pub before_more : (i : ℕ) (hs : List Taken) (r : ℕ) (x : Taken) → before i hs r ≡ true → i < length hs → x ≡ get_or hs i x → (x.resource ≡ r → ⊥) → before (suc i) hs r ≡ true
before_more zero [] r x b near at ne = absurd (omega (arith, near))
before_more (suc i) [] r x b near at ne = absurd (omega (arith, near))
before_more zero (h ∷ hs) r x b near at ne = go (nat_eq h.resource r) refl
  where
    go : (d : Bool) → nat_eq h.resource r ≡ d → (if d then false else true) ≡ true
    go true e = let same : h.resource ≡ r = grind (arith, e) in absurd (ne (ap (λ (t : Taken). t.resource) at ∙ same))
    go false e = refl
before_more (suc i) (h ∷ hs) r x b near at ne = go (nat_eq h.resource r) b (λ b. before_more i hs r x b (omega (arith, near)) at ne)
  where
    go : (d : Bool) → (if d then false else before i hs r) ≡ true → (before i hs r ≡ true → before (suc i) hs r ≡ true) → (if d then false else before (suc i) hs r) ≡ true
    go true b ih = absurd (grind (arith, b))
    go false b ih = ih b

pub remove_is : (i : ℕ) (hs : List Taken) (r : ℕ) (x : Taken) → before i hs r ≡ true → i < length hs → x ≡ get_or hs i x → x.resource ≡ r → remove hs i ≡ without_taken hs r
remove_is zero [] r x b near at e = absurd (omega (arith, near))
remove_is (suc i) [] r x b near at e = absurd (omega (arith, near))
remove_is zero (h ∷ hs) r x b near at e =
    let same : h.resource ≡ r = ap (λ (t : Taken). t.resource) (sym at) ∙ e in
    let t : nat_eq h.resource r ≡ true = grind (arith, same) in
    sym (ap (λ d. if d then hs else h ∷ without_taken hs r) t)
remove_is (suc i) (h ∷ hs) r x b near at e = go (nat_eq h.resource r) b (λ b. remove_is i hs r x b (omega (arith, near)) at e)
  where
    go : (d : Bool) → (if d then false else before i hs r) ≡ true → (before i hs r ≡ true → remove hs i ≡ without_taken hs r) → h ∷ remove hs i ≡ (if d then hs else h ∷ without_taken hs r)
    go true b ih = absurd (grind (arith, b))
    go false b ih = ap (λ l. h ∷ l) (ih b)

pub without_none : (i : ℕ) (hs : List Taken) (r : ℕ) → before i hs r ≡ true → length hs ≤ i → hs ≡ without_taken hs r
without_none i [] r b far = refl
without_none zero (h ∷ hs) r b far = absurd (omega (arith, far))
without_none (suc i) (h ∷ hs) r b far = go (nat_eq h.resource r) b (λ b. without_none i hs r b (omega (arith, far)))
  where
    go : (d : Bool) → (if d then false else before i hs r) ≡ true → (before i hs r ≡ true → hs ≡ without_taken hs r) → h ∷ hs ≡ (if d then hs else h ∷ without_taken hs r)
    go true b ih = absurd (grind (arith, b))
    go false b ih = ap (λ l. h ∷ l) (ih b)
