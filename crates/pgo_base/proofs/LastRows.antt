-- What a name stands for among rows, the last one first, by the place of the last of it.
use Rattle.std.proofs.Common.{◌≡◌, ℕ, suc, Bool, true, false, List, [], ◌∷◌, ◌++◌, length, length-append, map, reverse, refl, ap, sym, ◌∙◌, subst, arith}
use Rattle.std.proofs.lemmas.List.{append-nil, append_assoc, reverse-append, reverse-reverse, length-reverse}
use Rattle.std.specs.Prelude.{if◌then◌else◌, Option, Some, None, option_map, slice_get}
use Rattle.pgo_base.specs.BindingsView.{onto}
use Rattle.pgo_base.specs.LastPlace.{place_among, last_place, row_at, last_row}
use Rattle.pgo_base.specs.Lookup.{Name, same_name, find}
use Rattle.pgo_base.proofs.LastPlaces.{IsBelow, place_below, front_at, last_at}

same_row : {A : Type 0} (rows : List A) (r : A) (o : Option ℕ) → IsBelow o (length rows) → row_at rows o ≡ row_at (rows ++ r ∷ []) o
same_row rows r None h = refl
same_row rows r (Some i) h = sym (front_at rows (r ∷ []) i h)

onto_reverse : {A : Type 0} (xs ys : List A) → onto xs ys ≡ reverse xs ++ ys
onto_reverse [] ys = refl
onto_reverse (x ∷ xs) ys = onto_reverse xs (x ∷ ys) ∙ sym (ap (λ l. l ++ ys) (reverse-append (x ∷ []) xs) ∙ append_assoc (reverse xs) (x ∷ []) ys)

-- what the place of the last of a name is where one row stands before others
abbrev place_behind : Bool → Option ℕ → Option ℕ
place_behind b None = if b then Some 0 else None
place_behind b (Some i) = Some (suc i)

one_before : {A : Type 0} (f : A → Name) (x : Name) (rs : List A) (r : A) → place_among f x (rs ++ r ∷ []) ≡ place_behind (same_name x (f r)) (place_among f x rs)
one_before f x [] r = refl
one_before f x (q ∷ rs) r = go (same_name x (f q)) (one_before f x rs r)
  where
    go : (b : Bool) → place_among f x (rs ++ r ∷ []) ≡ place_behind (same_name x (f r)) (place_among f x rs) → (if b then Some (length (rs ++ r ∷ [])) else place_among f x (rs ++ r ∷ [])) ≡ place_behind (same_name x (f r)) (if b then Some (length rs) else place_among f x rs)
    go true h = ap Some (length-append rs (r ∷ []) ∙ omega arith)
    go false h = h

first_before : {A : Type 0} (f : A → Name) (x : Name) (r : A) (rs : List A) → last_place f x (r ∷ rs) ≡ place_behind (same_name x (f r)) (last_place f x rs)
first_before f x r rs = ap (place_among f x) (reverse-append (r ∷ []) rs) ∙ one_before f x (reverse rs) r

-- the last of a name among the rows behind the first
pub last_behind : {A : Type 0} (f : A → Name) (x : Name) (r : A) (rs : List A) (i : ℕ) → Some i ≡ last_place f x rs → slice_get rs i ≡ last_row f x (r ∷ rs)
last_behind f x r rs i h = ap (λ o. row_at (r ∷ rs) (place_behind (same_name x (f r)) o)) h ∙ sym (ap (row_at (r ∷ rs)) (first_before f x r rs))

-- none of those has it
pub last_or_first : {A : Type 0} (f : A → Name) (x : Name) (r : A) (rs : List A) → None ≡ last_place f x rs → (if same_name x (f r) then Some r else None) ≡ last_row f x (r ∷ rs)
last_or_first f x r rs h = go (same_name x (f r)) ∙ ap (λ o. row_at (r ∷ rs) (place_behind (same_name x (f r)) o)) h ∙ sym (ap (row_at (r ∷ rs)) (first_before f x r rs))
  where
    go : (b : Bool) → (if b then Some r else None) ≡ row_at (r ∷ rs) (place_behind b None)
    go true = refl
    go false = refl

module _ {A B : Type 0} (f : A → Name) (g : A → B) (x : Name) where
  abbrev row : A → Name × B
  row r = (f r, g r)

  -- the last row is first here
  valued : (rs : List A) → find x (map row rs) ≡ option_map g (row_at (reverse rs) (place_among f x rs))
  valued [] = refl
  valued (r ∷ rs) = go (same_name x (f r)) (valued rs)
    where
      go : (b : Bool) → find x (map row rs) ≡ option_map g (row_at (reverse rs) (place_among f x rs)) → (if b then Some (g r) else find x (map row rs)) ≡ option_map g (row_at (reverse (r ∷ rs)) (if b then Some (length rs) else place_among f x rs))
      go true h =
          sym (ap (λ l. option_map g (row_at l (Some (length rs)))) (reverse-append (r ∷ []) rs)
          ∙ ap (λ n. option_map g (slice_get (reverse rs ++ r ∷ []) n)) (sym (length-reverse rs))
          ∙ ap (option_map g) (last_at (reverse rs) r))
      go false h =
          h ∙ ap (option_map g) (same_row (reverse rs) r (place_among f x rs) (subst (IsBelow (place_among f x rs)) (sym (length-reverse rs)) (place_below f x rs)))
          ∙ sym (ap (λ l. option_map g (row_at l (place_among f x rs))) (reverse-append (r ∷ []) rs))

  mapped : (rs done : List A) → onto (map row rs) (map row done) ≡ map row (onto rs done)
  mapped [] done = refl
  mapped (r ∷ rs) done = mapped rs (r ∷ done)

  pub last_found : (rs : List A) → find x (onto (map row rs) []) ≡ option_map g (last_row f x rs)
  last_found rs =
      ap (find x) (mapped rs [] ∙ ap (map row) (onto_reverse rs [] ∙ append-nil (reverse rs)))
      ∙ valued (reverse rs) ∙ ap (λ l. option_map g (row_at l (place_among f x (reverse rs)))) (reverse-reverse rs)
