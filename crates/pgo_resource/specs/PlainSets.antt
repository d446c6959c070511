-- Another content at a held resource.
use Rattle.std.proofs.Common.{◌≡◌, ◌<◌, ℕ, zero, suc, Bool, true, false, List, [], ◌∷◌, map, length, set, Some, refl, sym, ap, ◌∙◌, subst, arith}
use Rattle.std.specs.Prelude.{if◌then◌else◌, nat_eq, nat_lt, IsSome, slice_get}
use Rattle.pgo_base.specs.Data.{Data}
use Rattle.pgo_model.specs.Machine.{among}
use Rattle.pgo_model.specs.Operators.{same_data}
use Rattle.pgo_workers.specs.View.{Shown, Hold, hold_at, with_content}
use Rattle.pgo_resource.specs.declared.taken.Taken.{Taken}
use Rattle.pgo_resource.specs.PlainRows.{taken_of, apart, spot, shown_at, rows, row, fits, FreeStands}

pub eq_turned : (a b : ℕ) → nat_eq a b ≡ nat_eq b a
eq_turned a b = grind arith

pub differ : (a b : ℕ) → nat_eq a b ≡ false → a ≡ b → ⊥
differ a b n e = grind (arith, n, e)

pub set_far : {A : Type 0} (xs : List A) (c : A) → set xs (length xs) c ≡ xs
set_far [] c = refl
set_far (x ∷ xs) c = ap (λ l. x ∷ l) (set_far xs c)

-- a member of what is held
pub among_there : (r : ℕ) (q : ℕ) (rs : List ℕ) → among r (q ∷ rs) ≡ false → (nat_eq q r ≡ false) × (among r rs ≡ false)
among_there r q rs h = go (nat_eq r q) refl h
  where
    go : (b : Bool) → nat_eq r q ≡ b → (if b then true else among r rs) ≡ false → (nat_eq q r ≡ false) × (among r rs ≡ false)
    go true e h = absurd (grind (arith, h))
    go false e h = (eq_turned q r ∙ e, h)

pub map_length : {A B : Type 0} (f : A → B) (xs : List A) → length (map f xs) ≡ length xs
map_length f [] = refl
map_length f (x ∷ xs) = ap (λ n. suc n) (map_length f xs)

module _ {R : Type 0} (shows : R → Shown) where
  pub shown_set_same : (xs : List R) (r : ℕ) (c : R) → r < length xs → shown_at shows (set xs r c) r ≡ shows c
  shown_set_same [] r c h = absurd (omega arith)
  shown_set_same (x ∷ xs) zero c h = refl
  shown_set_same (x ∷ xs) (suc r) c h = shown_set_same xs r c (omega arith)

  pub shown_set_other : (xs : List R) (r q : ℕ) (c : R) → nat_eq q r ≡ false → shown_at shows (set xs q c) r ≡ shown_at shows xs r
  shown_set_other [] r q c n = refl
  shown_set_other (x ∷ xs) zero zero c n = absurd (differ zero zero n refl)
  shown_set_other (x ∷ xs) (suc r) zero c n = refl
  shown_set_other (x ∷ xs) zero (suc q) c n = refl
  shown_set_other (x ∷ xs) (suc r) (suc q) c n = shown_set_other xs r q c (grind (arith, n))

  pub shown_get : (xs : List R) (r : ℕ) (c : R) → slice_get xs r ≡ Some c → shown_at shows xs r ≡ shows c
  shown_get [] r c e = absurd (grind (arith, e))
  shown_get (x ∷ xs) zero c e = ap shows (some_same e)
    where
      some_same : Some x ≡ Some c → x ≡ c
      some_same h = cc
  shown_get (x ∷ xs) (suc r) c e = shown_get xs r c e

  pub set_spot_same : (xs : List R) (rs : List ℕ) (q r : ℕ) (c : R) → among r rs ≡ false → shown_at shows (set xs (spot (length xs) q rs) c) r ≡ shown_at shows xs r
  set_spot_same xs rs q r c out = go (among q rs) refl
    where
      go : (b : Bool) → among q rs ≡ b → shown_at shows (set xs (if b then q else length xs) c) r ≡ shown_at shows xs r
      go true e = shown_set_other xs r q c (far (nat_eq q r) refl)
        where
          far : (d : Bool) → nat_eq q r ≡ d → nat_eq q r ≡ false
          far true d = let same : q ≡ r = grind (arith, d) in absurd (grind (arith, e, out, ap (λ x. among x rs) same))
          far false d = d
      go false e = ap (λ l. shown_at shows l r) (set_far xs c)

  pub free_set : (n : ℕ) (values : ℕ → Data) (xs : List R) (rs : List ℕ) (q : ℕ) (c : R) → FreeStands shows n values xs rs → FreeStands shows n values (set xs (spot (length xs) q rs) c) rs
  free_set n values xs rs q c free r near out = subst (λ (x : Shown). (same_data x.base (values r) ≡ true) × (same_data x.current (values r) ≡ true) × (fits x.number r ≡ true)) (sym (set_spot_same xs rs q r c out)) (free r near out)

  pub hold_content : (values : ℕ → Data) (xs : List R) (hs : List Taken) (r : ℕ) (h : Hold) → hold_at (rows shows values xs hs) r ≡ Some h → h.content ≡ shown_at shows xs r
  hold_content values xs [] r h e = absurd (grind (arith, e))
  hold_content values xs (t ∷ hs) r h e = go (nat_eq t.resource r) refl e (λ e. hold_content values xs hs r h e)
    where
      some_same : (x : Hold) → Some x ≡ Some h → x ≡ h
      some_same x h = cc

      go : (b : Bool) → nat_eq t.resource r ≡ b → (if b then Some (row shows values xs t) else hold_at (rows shows values xs hs) r) ≡ Some h → (hold_at (rows shows values xs hs) r ≡ Some h → h.content ≡ shown_at shows xs r) → h.content ≡ shown_at shows xs r
      go true b e ih = let same : t.resource ≡ r = grind (arith, b) in ap (λ (x : Hold). x.content) (sym (some_same _ e)) ∙ ap (shown_at shows xs) same
      go false b e ih = ih e

  pub rows_other : (values : ℕ → Data) (xs : List R) (hs : List Taken) (q : ℕ) (c : R) → among q (taken_of hs) ≡ false → rows shows values (set xs q c) hs ≡ rows shows values xs hs
  rows_other values xs [] q c out = refl
  rows_other values xs (t ∷ hs) q c out = let o = among_there q t.resource (taken_of hs) out in
      λ i. record { resource = t.resource; value = values t.resource; count = t.count; content = shown_set_other xs t.resource q c (eq_turned q t.resource ∙ o.0) i } ∷ rows_other values xs hs q c o.1 i

  -- it is held
  pub held_among : (values : ℕ → Data) (xs : List R) (hs : List Taken) (r : ℕ) → IsSome (hold_at (rows shows values xs hs) r) → among r (taken_of hs) ≡ true
  held_among values xs [] r h = absurd (grind (arith, h))
  held_among values xs (t ∷ hs) r h = go (nat_eq t.resource r) refl h (λ h. held_among values xs hs r h)
    where
      go : (b : Bool) → nat_eq t.resource r ≡ b → IsSome (if b then Some (row shows values xs t) else hold_at (rows shows values xs hs) r) → (IsSome (hold_at (rows shows values xs hs) r) → among r (taken_of hs) ≡ true) → (if nat_eq r t.resource then true else among r (taken_of hs)) ≡ true
      go true b h ih = ap (λ d. if d then true else among r (taken_of hs)) (eq_turned r t.resource ∙ b)
      go false b h ih = ap (λ d. if d then true else among r (taken_of hs)) (eq_turned r t.resource ∙ b) ∙ ih h

  apart_more : (n q : ℕ) (rs : List ℕ) → apart n (q ∷ rs) ≡ true → (q < n) × (among q rs ≡ false) × (apart n rs ≡ true)
  apart_more n q rs h = go (nat_lt q n) (among q rs) refl refl h
    where
      go : (a b : Bool) → nat_lt q n ≡ a → among q rs ≡ b → (if a then if b then false else apart n rs else false) ≡ true → (q < n) × (among q rs ≡ false) × (apart n rs ≡ true)
      go true false a b h = (grind (arith, a), b, h)
      go true true a b h = absurd (grind (arith, h))
      go false b a e h = absurd (grind (arith, h))

  pub apart_near : (n r : ℕ) (rs : List ℕ) → apart n rs ≡ true → among r rs ≡ true → r < n
  apart_near n r [] a h = absurd (grind (arith, h))
  apart_near n r (q ∷ rs) a h = let m = apart_more n q rs a in go (nat_eq r q) refl h m.0 (λ h. apart_near n r rs m.2 h)
    where
      go : (b : Bool) → nat_eq r q ≡ b → (if b then true else among r rs) ≡ true → q < n → (among r rs ≡ true → r < n) → r < n
      go true b h near more = let same : r ≡ q = grind (arith, b) in subst (λ x. x < n) (sym same) near
      go false b h near more = more h

  rows_put : (n : ℕ) (values : ℕ → Data) (xs : List R) (hs : List Taken) (r : ℕ) (c : R) → r < length xs → apart n (taken_of hs) ≡ true → rows shows values (set xs r c) hs ≡ with_content r (shows c) (rows shows values xs hs)
  rows_put n values xs [] r c near a = refl
  rows_put n values xs (t ∷ hs) r c near a = let m = apart_more n t.resource (taken_of hs) a in go (nat_eq t.resource r) refl m.1 (rows_put n values xs hs r c near m.2)
    where
      go : (b : Bool) → nat_eq t.resource r ≡ b → among t.resource (taken_of hs) ≡ false → rows shows values (set xs r c) hs ≡ with_content r (shows c) (rows shows values xs hs)
          → row shows values (set xs r c) t ∷ rows shows values (set xs r c) hs ≡ (if b then record (row shows values xs t) { content = shows c } ∷ rows shows values xs hs else row shows values xs t ∷ with_content r (shows c) (rows shows values xs hs))
      go true b out ih = let same : t.resource ≡ r = grind (arith, b) in
          λ i. record { resource = t.resource; value = values t.resource; count = t.count; content = (ap (shown_at shows (set xs r c)) same ∙ shown_set_same xs r c near) i } ∷ rows_other values xs hs r c (ap (λ x. among x (taken_of hs)) (sym same) ∙ out) i
      go false b out ih = λ i. record { resource = t.resource; value = values t.resource; count = t.count; content = shown_set_other xs t.resource r c (eq_turned r t.resource ∙ b) i } ∷ ih i

  pub rows_set : (n : ℕ) (values : ℕ → Data) (xs : List R) (hs : List Taken) (r : ℕ) (c : R) → n ≡ length xs → apart n (taken_of hs) ≡ true → IsSome (hold_at (rows shows values xs hs) r)
      → rows shows values (set xs (spot (length xs) r (taken_of hs)) c) hs ≡ with_content r (shows c) (rows shows values xs hs)
  rows_set n values xs hs r c len a there = let b = held_among values xs hs r there in
      ap (λ d. rows shows values (set xs (if d then r else length xs) c) hs) b ∙ rows_put n values xs hs r c (subst (λ m. r < m) len (apart_near n r (taken_of hs) a b)) a
