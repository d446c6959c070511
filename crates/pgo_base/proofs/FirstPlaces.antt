-- What is noted of each name where the first of a name counts, and the place of the first, once one more is behind others.
use Rattle.std.proofs.Common.{◌≡◌, ℕ, suc, Bool, true, false, List, [], ◌∷◌, ◌++◌, length, cond, refl, ap, sym, ◌∙◌}
use Rattle.std.specs.Prelude.{Option, Some, None, option_map, is_some, if◌then◌else◌}
use Rattle.pgo_base.specs.FirstPlace.{first_place}
use Rattle.pgo_base.specs.Lookup.{Name, same_name, or_that}
use Rattle.pgo_base.specs.SameName.{same_name-is}

or_none : {A : Type 0} (o : Option A) → o ≡ or_that o None
or_none None = refl
or_none (Some a) = refl

or_some : {A : Type 0} (o p : Option A) → is_some o ≡ true → o ≡ or_that o p
or_some None p h = absurd (cc)
or_some (Some a) p h = refl

or_second : {A : Type 0} (o p : Option A) → is_some o ≡ false → p ≡ or_that o p
or_second None p h = refl
or_second (Some a) p h = absurd (cc)

-- something is noted of the name already
pub first_stays : {A : Type 0} (noted : Name → Option A) (name : Name) (a : A) → is_some (noted name) ≡ true → (x : Name) → noted x ≡ or_that (noted x) (if same_name x name then Some a else None)
first_stays noted name a h x = go (same_name x name) refl
  where
    go : (b : Bool) → same_name x name ≡ b → noted x ≡ or_that (noted x) (if b then Some a else None)
    go true e = or_some (noted x) (Some a) (ap (λ y. is_some (noted y)) (same_name-is x name e) ∙ h)
    go false e = or_none (noted x)

-- nothing is
pub first_added : {A : Type 0} (old new : Name → Option A) (name : Name) (a : A) → is_some (old name) ≡ false → ((x : Name) → new x ≡ cond (same_name x name) (Some a) (old x)) → (x : Name) → new x ≡ or_that (old x) (if same_name x name then Some a else None)
first_added old new name a h e x = e x ∙ go (same_name x name) refl
  where
    go : (b : Bool) → same_name x name ≡ b → cond b (Some a) (old x) ≡ or_that (old x) (if b then Some a else None)
    go true k = or_second (old x) (Some a) (ap (λ y. is_some (old y)) (same_name-is x name k) ∙ h)
    go false k = or_none (old x)

next : (a b : Option ℕ) → option_map suc (or_that a b) ≡ or_that (option_map suc a) (option_map suc b)
next None b = refl
next (Some i) b = refl

first_more : {A : Type 0} (f : A → Name) (x : Name) (rows : List A) (r : A) → first_place f x (rows ++ r ∷ []) ≡ or_that (first_place f x rows) (if same_name x (f r) then Some (length rows) else None)
first_more f x [] r = go (same_name x (f r))
  where
    go : (b : Bool) → (if b then Some 0 else option_map suc None) ≡ (if b then Some 0 else None)
    go true = refl
    go false = refl
first_more f x (q ∷ rows) r = go (same_name x (f q)) (first_more f x rows r)
  where
    step : (b : Bool) → option_map suc (if b then Some (length rows) else None) ≡ (if b then Some (suc (length rows)) else None)
    step true = refl
    step false = refl

    go : (b : Bool) → first_place f x (rows ++ r ∷ []) ≡ or_that (first_place f x rows) (if same_name x (f r) then Some (length rows) else None) → (if b then Some 0 else option_map suc (first_place f x (rows ++ r ∷ []))) ≡ or_that (if b then Some 0 else option_map suc (first_place f x rows)) (if same_name x (f r) then Some (suc (length rows)) else None)
    go true h = refl
    go false h = ap (option_map suc) h ∙ next (first_place f x rows) (if same_name x (f r) then Some (length rows) else None) ∙ ap (or_that (option_map suc (first_place f x rows))) (step (same_name x (f r)))

-- the place of the first of each name, once one row is behind others
pub place_added : {A : Type 0} (f : A → Name) (old new : Name → Option ℕ) (rows more : List A) (r : A) (place : ℕ) → ((x : Name) → old x ≡ first_place f x rows) → ((x : Name) → new x ≡ or_that (old x) (if same_name x (f r) then Some place else None)) → place ≡ length rows → more ≡ rows ++ r ∷ []
    → (x : Name) → new x ≡ first_place f x more
place_added f old new rows more r place h e at m x =
    e x ∙ (λ i. or_that (h x i) (if same_name x (f r) then Some (at i) else None)) ∙ sym (ap (first_place f x) m ∙ first_more f x rows r)
