-- The last of a name in a list, among the first of it, and with one more.
use Rattle.std.proofs.Common.{◌≡◌, ◌<◌, ℕ, zero, suc, Bool, true, false, List, [], ◌∷◌, ◌++◌, length, length-append, length-take, take, drop, refl, ap, sym, ◌∙◌, subst, arith}
use Rattle.std.proofs.lemmas.List.{reverse-append, length-reverse, take-append-drop}
use Rattle.std.specs.Prelude.{if◌then◌else◌, Option, Some, None, reverse, slice_get, unwrap_or}
use Rattle.pgo_base.specs.Lookup.{Name, same_name}
use Rattle.pgo_base.specs.LastPlace.{place_among, last_place}

-- one more at the end
pub more_last : {A : Type 0} (f : A → Name) (x : Name) (rows more : List A) (r : A) (n : ℕ) → more ≡ rows ++ r ∷ [] → n ≡ length rows → last_place f x more ≡ (if same_name x (f r) then Some n else last_place f x rows)
more_last f x rows more r n e h =
    ap (last_place f x) e
    ∙ ap (place_among f x) (reverse-append rows (r ∷ []))
    ∙ ap (λ k. if same_name x (f r) then Some k else last_place f x rows) (length-reverse rows ∙ sym h)

over : {A : Type 0} (f : A → Name) (x : Name) (front older : List A) (i : ℕ) → place_among f x (front ++ older) ≡ Some i → i < length older → place_among f x older ≡ Some i
over f x [] older i e h = e
over f x (r ∷ front) older i e h = go (same_name x (f r)) e (λ k. over f x front older i k h)
  where
    go : (b : Bool) → (if b then Some (length (front ++ older)) else place_among f x (front ++ older)) ≡ Some i → (place_among f x (front ++ older) ≡ Some i → place_among f x older ≡ Some i) → place_among f x older ≡ Some i
    go true k again =
        let same : length (front ++ older) ≡ i = ap (λ o. unwrap_or o 0) k in
        absurd (omega (arith, same, length-append front older, h))
    go false k again = again k

over_none : {A : Type 0} (f : A → Name) (x : Name) (front older : List A) → place_among f x (front ++ older) ≡ None → place_among f x older ≡ None
over_none f x [] older e = e
over_none f x (r ∷ front) older e = go (same_name x (f r)) e (over_none f x front older)
  where
    go : (b : Bool) → (if b then Some (length (front ++ older)) else place_among f x (front ++ older)) ≡ None → (place_among f x (front ++ older) ≡ None → place_among f x older ≡ None) → place_among f x older ≡ None
    go true k again = absurd (cc)
    go false k again = again k

-- a place, if there is one, is below n
abbrev pub IsBelow : Option ℕ → ℕ → Type 0
IsBelow None n = Unit {0}
IsBelow (Some i) n = i < n

one_more : (o : Option ℕ) (n : ℕ) → IsBelow o n → IsBelow o (suc n)
one_more None n h = tt
one_more (Some i) n h = omega (arith, h)

pub place_below : {A : Type 0} (f : A → Name) (x : Name) (rs : List A) → IsBelow (place_among f x rs) (length rs)
place_below f x [] = tt
place_below f x (r ∷ rs) = go (same_name x (f r)) (place_below f x rs)
  where
    go : (b : Bool) → IsBelow (place_among f x rs) (length rs) → IsBelow (if b then Some (length rs) else place_among f x rs) (suc (length rs))
    go true h = omega arith
    go false h = one_more (place_among f x rs) (length rs) h

-- there is a row in the last place
pub last_below : {A : Type 0} (f : A → Name) (x : Name) (rows : List A) (i : ℕ) → last_place f x rows ≡ Some i → i < length rows
last_below f x rows i e = let h : i < length (reverse rows) = subst (λ o. IsBelow o (length (reverse rows))) e (place_below f x (reverse rows)) in omega (arith, h, length-reverse rows)

parts : {A : Type 0} (rows : List A) (n : ℕ) → reverse rows ≡ reverse (drop n rows) ++ reverse (take n rows)
parts rows n = ap reverse (sym (take-append-drop n rows)) ∙ reverse-append (take n rows) (drop n rows)

-- the last of all, where it is among the first ones
pub last_kept : {A : Type 0} (f : A → Name) (x : Name) (rows : List A) (n i : ℕ) → last_place f x rows ≡ Some i → i < n → last_place f x (take n rows) ≡ Some i
last_kept f x rows n i e h =
    over f x (reverse (drop n rows)) (reverse (take n rows)) i (sym (ap (place_among f x) (parts rows n)) ∙ e) (omega (arith, length-reverse (take n rows), length-take n rows, last_below f x rows i e, h))

-- where none of all has the name, none of the first ones has
pub none_kept : {A : Type 0} (f : A → Name) (x : Name) (rows : List A) (n : ℕ) → last_place f x rows ≡ None → last_place f x (take n rows) ≡ None
none_kept f x rows n e = over_none f x (reverse (drop n rows)) (reverse (take n rows)) (sym (ap (place_among f x) (parts rows n)) ∙ e)

-- what stands in a place of the front stands there in the whole
pub front_at : {A : Type 0} (xs ys : List A) (i : ℕ) → i < length xs → slice_get (xs ++ ys) i ≡ slice_get xs i
front_at [] ys i h = absurd (omega (arith, h))
front_at (x ∷ xs) ys zero h = refl
front_at (x ∷ xs) ys (suc i) h = front_at xs ys i (omega (arith, h))

pub last_at : {A : Type 0} (xs : List A) (y : A) → slice_get (xs ++ y ∷ []) (length xs) ≡ Some y
last_at [] y = refl
last_at (x ∷ xs) y = last_at xs y
