-- The end of a path makes the state that the section's end makes.
use Rattle.std.proofs.Common.{◌≡◌, ℕ, zero, suc, Bool, true, false, ◌||◌, List, [], ◌∷◌, length, Option, Some, None, refl, sym, ap, ◌∙◌, arith, option_and_then}
use Rattle.std.specs.List.{AllByRecursion}
use Rattle.std.proofs.lemmas.Option.{same_Some}
use Rattle.pgo_base.specs.Data.{Data}
use Rattle.pgo_base.specs.Lookup.{Name, Vars, same_name, find}
use Rattle.pgo_model.specs.Machine.{nth}
use Rattle.pgo_model.specs.Names.{AreDifferent, same_name-self, same_name-is, is_among}
use Rattle.pgo_model.specs.Operators.{both}
use Rattle.pgo_sections.specs.SectionsAgree.{keys}
use Rattle.pgo_sections.specs.Context.{Context}
use Rattle.pgo_sections.specs.Section.{closed_value, closed}
use Rattle.pgo_sections.proofs.Later.{find_in, find_on}

-- ---- lists of names
pub among_nth : (xs : List Name) (n : ℕ) (x : Name) → nth xs n ≡ Some x → is_among x xs ≡ true
among_nth [] n x h = absurd (grind (arith, h))
among_nth (y ∷ xs) zero x h = ap (λ b. b || is_among x xs) (ap (λ z. same_name x z) (same_Some y x h) ∙ same_name-self x)
among_nth (y ∷ xs) (suc n) x h = or_true (same_name x y) (is_among x xs) (among_nth xs n x h)
  where
    or_true : (b c : Bool) → c ≡ true → b || c ≡ true
    or_true true c e = refl
    or_true false c e = e

pub nth_among : (xs : List Name) (x : Name) → is_among x xs ≡ true → (n : ℕ) × (nth xs n ≡ Some x)
nth_among [] x h = absurd (grind (arith, h))
nth_among (y ∷ xs) x h = go (same_name x y) refl h (λ k. nth_among xs x k)
  where
    go : (b : Bool) → same_name x y ≡ b → b || is_among x xs ≡ true → (is_among x xs ≡ true → (n : ℕ) × (nth xs n ≡ Some x)) → (n : ℕ) × (nth (y ∷ xs) n ≡ Some x)
    go true e k more = (0, ap (λ z. Some z) (sym (same_name-is x y e)))
    go false e k more = let r = more k in (suc r.0, r.1)

pub found_among : {A : Type 0} → (s : List (Name × A)) (x : Name) → is_among x (keys s) ≡ true → (v : A) × (find x s ≡ Some v)
found_among [] x h = absurd (grind (arith, h))
found_among {A} (p ∷ s) x h = go (same_name x p.0) refl h (λ k. found_among s x k)
  where
    go : (b : Bool) → same_name x p.0 ≡ b → b || is_among x (keys s) ≡ true → (is_among x (keys s) ≡ true → (v : A) × (find x s ≡ Some v)) → (v : A) × (find x (p ∷ s) ≡ Some v)
    go true e k more = (p.1, find_in x p s e)
    go false e k more = let r = more k in (r.0, find_on x p s e ∙ r.1)

pub not_among : {A : Type 0} → (s : List (Name × A)) (x : Name) → is_among x (keys s) ≡ false → find x s ≡ None
not_among [] x h = refl
not_among (p ∷ s) x h = go (same_name x p.0) refl h (λ k. not_among s x k)
  where
    go : (b : Bool) → same_name x p.0 ≡ b → b || is_among x (keys s) ≡ false → (is_among x (keys s) ≡ false → find x s ≡ None) → find x (p ∷ s) ≡ None
    go true e k more = absurd (grind (arith, k))
    go false e k more = find_on x p s e ∙ more k

none_among : (x : Name) (ys : List Name) → AllByRecursion (λ y. same_name x y ≡ false) ys → is_among x ys ≡ false
none_among x [] h = refl
none_among x (y ∷ ys) h = ap (λ b. b || is_among x ys) h.0 ∙ none_among x ys h.1

module _ (k : Context) (l : Name) (ch : Vars) where
  some_both : (o : Option Data) (q : Option Vars) (x : Name) (t : Vars) → both (λ v t. Some ((x, v) ∷ t)) o q ≡ Some t → (v : Data) × (rest : Vars) × (o ≡ Some v) × (q ≡ Some rest) × ((x, v) ∷ rest ≡ t)
  some_both None q x t e = absurd (grind (arith, e))
  some_both (Some v) None x t e = absurd (grind (arith, e))
  some_both (Some v) (Some rest) x t e = (v, rest, refl, refl, same_Some _ _ e)

  -- each variable of the end is what its start becomes
  pub closed_at : (s t : Vars) → closed k l ch s ≡ Some t → (x : Name) → find x t ≡ option_and_then (closed_value k l ch x) (find x s)
  closed_at [] t e x = ap (find x) (sym (same_Some _ _ e))
  closed_at (p ∷ s) t e x =
      let b = some_both (closed_value k l ch p.0 p.1) (closed k l ch s) p.0 t e in
      ap (find x) (sym b.4) ∙ go (same_name x p.0) refl b.0 b.1 b.2 (closed_at s b.1 b.3 x)
    where
      go : (c : Bool) → same_name x p.0 ≡ c → (v : Data) (rest : Vars) → closed_value k l ch p.0 p.1 ≡ Some v → find x rest ≡ option_and_then (closed_value k l ch x) (find x s) → find x ((p.0, v) ∷ rest) ≡ option_and_then (closed_value k l ch x) (find x (p ∷ s))
      go true c v rest h more =
          find_in x (p.0, v) rest c ∙ sym h ∙ ap (λ y. closed_value k l ch y p.1) (sym (same_name-is x p.0 c)) ∙ sym (ap (option_and_then (closed_value k l ch x)) (find_in x p s c))
      go false c v rest h more = find_on x (p.0, v) rest c ∙ more ∙ sym (ap (option_and_then (closed_value k l ch x)) (find_on x p s c))

  pub closed_keys : (s t : Vars) → closed k l ch s ≡ Some t → keys t ≡ keys s
  closed_keys [] t e = ap keys (sym (same_Some _ _ e))
  closed_keys (p ∷ s) t e =
      let b = some_both (closed_value k l ch p.0 p.1) (closed k l ch s) p.0 t e in
      ap keys (sym b.4) ∙ ap (λ xs. p.0 ∷ xs) (closed_keys s b.1 b.3)

  -- and a state with those variables is the end
  pub closed_is : (s t : Vars) → keys t ≡ keys s → AreDifferent (keys s) → ((x : Name) → is_among x (keys s) ≡ true → find x t ≡ option_and_then (closed_value k l ch x) (find x s)) → closed k l ch s ≡ Some t
  closed_is [] [] e d h = refl
  closed_is [] (q ∷ t) e d h = absurd (let n = ap length e in omega (arith, n))
  closed_is (p ∷ s) [] e d h = absurd (let n = ap length e in omega (arith, n))
  closed_is (p ∷ s) (q ∷ t) e d h =
      let first : q.0 ≡ p.0 = heads e in
      let rest : keys t ≡ keys s = tails e in
      let here : closed_value k l ch p.0 p.1 ≡ Some q.1 = sym (ap (option_and_then (closed_value k l ch p.0)) (find_in p.0 p s (same_name-self p.0))) ∙ sym (h p.0 (ap (λ b. b || is_among p.0 (keys s)) (same_name-self p.0))) ∙ find_in p.0 q t (ap (λ y. same_name p.0 y) first ∙ same_name-self p.0) in
      let more = closed_is s t rest d.1 (λ x is. later x is (same_name x p.0) refl first) in
      (λ i. both (λ v t. Some ((p.0, v) ∷ t)) (here i) (more i)) ∙ ap (λ y. Some ((y, q.1) ∷ t)) (sym first)
    where
      head_of : List Name → Name
      head_of [] = []
      head_of (x ∷ xs) = x

      heads : q.0 ∷ keys t ≡ p.0 ∷ keys s → q.0 ≡ p.0
      heads e = cc

      tails : q.0 ∷ keys t ≡ p.0 ∷ keys s → keys t ≡ keys s
      tails e = cc

      later : (x : Name) → is_among x (keys s) ≡ true → (b : Bool) → same_name x p.0 ≡ b → q.0 ≡ p.0 → find x t ≡ option_and_then (closed_value k l ch x) (find x s)
      later x is true b first =
          absurd (let f : is_among p.0 (keys s) ≡ true = ap (λ y. is_among y (keys s)) (sym (same_name-is x p.0 b)) ∙ is in let g = none_among p.0 (keys s) d.0 in grind (arith, f, g))
      later x is false b first =
          sym (find_on x q t (ap (λ y. same_name x y) first ∙ b)) ∙ h x (ap (λ c. c || is_among x (keys s)) b ∙ is) ∙ ap (option_and_then (closed_value k l ch x)) (find_on x p s b)
