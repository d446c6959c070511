-- What calls leave of contents: what nobody holds stands, and what others hold is as it was.
use Rattle.std.proofs.Common.{◌≡◌, ◌<◌, ℕ, zero, suc, Bool, true, false, List, [], ◌∷◌, ◌++◌, length, Option, Some, None, refl, sym, ap, ◌∙◌, subst, arith, inl, inr}
use Rattle.std.specs.Prelude.{if◌then◌else◌, nat_eq, ◌⊎◌, IsSome}
use Rattle.pgo_base.specs.Data.{Data}
use Rattle.pgo_model.specs.Machine.{among, nth}
use Rattle.pgo_model.specs.Operators.{same_data}
use Rattle.pgo_workers.specs.Walk.{At}
use Rattle.pgo_workers.specs.View.{Shown, Hold, EachHold, Changed, MayNumber, changed, hold_at}
use Rattle.pgo_workers.proofs.Components.{same_self}
use Rattle.pgo_workers.specs.Worlds.{Layout, value_in}
use Rattle.pgo_resource.specs.declared.taken.Taken.{Taken}
use Rattle.pgo_resource.specs.PlainRows.{taken_of, apart, fits, shown_at, rows, FreeStands, FitsStart}
use Rattle.pgo_resource.specs.PlainSets.{held_among, hold_content, apart_near}
use Rattle.pgo_resource.proofs.PlainPlaces.{drop_among, among_push}
use Rattle.pgo_resource.proofs.PlainSteps.{hold_value}
use Rattle.pgo_core.specs.declared.claims.Claim.{Claim}
use Rattle.pgo_core.specs.Claims.{claimed, taken_by, without_claim}
use Rattle.pgo_core.specs.ClaimLaws.{none_by}
use Rattle.pgo_core.proofs.ClaimSteps.{claimed_push, claimed_without}

same_made : (x z : Data) → x ≡ z → same_data x z ≡ true
same_made x z e = subst (λ z. same_data x z ≡ true) e (same_self x)

fits_of : (n : Option ℕ) (r q : ℕ) → q ≡ r → (n ≡ None) ⊎ (n ≡ Some q) → fits n r ≡ true
fits_of n r q same (inl e) = ap (λ o. fits o r) e
fits_of n r q same (inr e) = let t : nat_eq q r ≡ true = grind (arith, same) in ap (λ o. fits o r) e ∙ t

module _ {R : Type 0} (shows : R → Shown) where
  pub free_push : (n : ℕ) (values : ℕ → Data) (xs : List R) (cs : List Claim) (c : Claim) → FreeStands shows n values xs (claimed cs) → FreeStands shows n values xs (claimed (cs ++ c ∷ []))
  free_push n values xs cs c free r near out = free r near (among_push r c.resource (claimed cs) (ap (among r) (sym (claimed_push cs c)) ∙ out)).0

  pub free_give : (n : ℕ) (values : ℕ → Data) (xs : List R) (cs : List Claim) (hs : List Taken) (q : ℕ) (h : Hold) → hold_at (rows shows values xs hs) q ≡ Some h → h.content.base ≡ h.value → h.content.current ≡ h.value → MayNumber h
      → FreeStands shows n values xs (claimed cs) → FreeStands shows n values xs (claimed (without_claim cs q))
  free_give n values xs cs hs q h at base current number free r near out = go (drop_among q r (claimed cs) (ap (among r) (sym (claimed_without cs q)) ∙ out))
    where
      v : (h.value ≡ values q) × (h.resource ≡ q)
      v = hold_value shows values xs hs q h at

      c : h.content ≡ shown_at shows xs q
      c = hold_content shows values xs hs q h at

      at_q : (same_data (shown_at shows xs q).base (values q) ≡ true) × (same_data (shown_at shows xs q).current (values q) ≡ true) × (fits (shown_at shows xs q).number q ≡ true)
      at_q = subst (λ (x : Shown). (same_data x.base (values q) ≡ true) × (same_data x.current (values q) ≡ true) × (fits x.number q ≡ true)) c (same_made h.content.base (values q) (base ∙ v.0), same_made h.content.current (values q) (current ∙ v.0), fits_of h.content.number q h.resource v.1 number)

      go : (r ≡ q) ⊎ (among r (claimed cs) ≡ false) → (same_data (shown_at shows xs r).base (values r) ≡ true) × (same_data (shown_at shows xs r).current (values r) ≡ true) × (fits (shown_at shows xs r).number r ≡ true)
      go (inl e) = subst (λ y. (same_data (shown_at shows xs y).base (values y) ≡ true) × (same_data (shown_at shows xs y).current (values y) ≡ true) × (fits (shown_at shows xs y).number y ≡ true)) (sym e) at_q
      go (inr o) = free r near o

  -- what isn't held isn't changed
  unchanged : (values : ℕ → Data) (xs : List R) (hs : List Taken) (vs : List At) (r : ℕ) (x : Data) → Changed (rows shows values xs hs) vs → among r (taken_of hs) ≡ false → changed vs r x ≡ x
  unchanged values xs hs [] r x c out = refl
  unchanged values xs hs (v ∷ vs) r x c out = go (nat_eq v.0 r) refl (unchanged values xs hs vs r x c.1 out)
    where
      held : IsSome (hold_at (rows shows values xs hs) v.0)
      held = subst (λ o. IsSome o) (sym c.0.1) refl

      go : (b : Bool) → nat_eq v.0 r ≡ b → changed vs r x ≡ x → (if b then v.1 else changed vs r x) ≡ x
      go true e ih = let same : r ≡ v.0 = grind (arith, e) in absurd (grind (arith, out, held_among shows values xs hs v.0 held, ap (λ x. among x (taken_of hs)) same))
      go false e ih = ih

  module _ (n : ℕ) (old new : ℕ → Data) (vs : List At) (xs : List R) (cs : List Claim) (k : ℕ) (e : (r : ℕ) → r < n → new r ≡ changed vs r (old r)) (changes : Changed (rows shows old xs (taken_by k cs)) vs) where
    pub free_commit : FreeStands shows n old xs (claimed cs) → FreeStands shows n new xs (claimed cs)
    free_commit free r near out =
        let f = free r near out in
        let same : new r ≡ old r = e r near ∙ unchanged old xs (taken_by k cs) vs r (old r) changes (none_by k r cs out) in
        (subst (λ v. same_data (shown_at shows xs r).base v ≡ true) (sym same) f.0, subst (λ v. same_data (shown_at shows xs r).current v ≡ true) (sym same) f.1, f.2)

    -- what another holds has the same value
    pub rows_stay : (hs : List Taken) → apart n (taken_of hs) ≡ true → ((r : ℕ) → among r (taken_of hs) ≡ true → among r (taken_of (taken_by k cs)) ≡ false) → rows shows new xs hs ≡ rows shows old xs hs
    rows_stay hs a out = go hs (λ r there. e r (apart_near shows n r (taken_of hs) a there) ∙ unchanged old xs (taken_by k cs) vs r (old r) changes (out r there))
      where
        here : (r : ℕ) (l : List ℕ) → among r (r ∷ l) ≡ true
        here r l = let t : nat_eq r r ≡ true = grind arith in ap (λ b. if b then true else among r l) t

        more : (x y : Bool) → y ≡ true → (if x then true else y) ≡ true
        more true y e = refl
        more false y e = e

        go : (l : List Taken) → ((r : ℕ) → among r (taken_of l) ≡ true → new r ≡ old r) → rows shows new xs l ≡ rows shows old xs l
        go [] same = refl
        go (t ∷ l) same = λ i. record { resource = t.resource; value = same t.resource (here t.resource (taken_of l)) i; count = t.count; content = shown_at shows xs t.resource }
            ∷ go l (λ r there. same r (more (nat_eq r t.resource) (among r (taken_of l)) there)) i

  -- what is held has the value of its resource, and shows its content
  pub rows_values : (values : ℕ → Data) (xs : List R) (hs : List Taken) → EachHold (λ h. values h.resource ≡ h.value) (rows shows values xs hs)
  rows_values values xs [] = tt
  rows_values values xs (t ∷ hs) = (refl, rows_values values xs hs)

  pub rows_contents : (values : ℕ → Data) (xs : List R) (hs : List Taken) → EachHold (λ h. h.content ≡ shown_at shows xs h.resource) (rows shows values xs hs)
  rows_contents values xs [] = tt
  rows_contents values xs (t ∷ hs) = (refl, rows_contents values xs hs)

  -- before all entries
  shown_nth : (xs : List R) (r : ℕ) → r < length xs → (c : R) × (nth xs r ≡ Some c) × (shown_at shows xs r ≡ shows c)
  shown_nth [] r h = absurd (omega (arith, h))
  shown_nth (x ∷ xs) zero h = (x, refl, refl)
  shown_nth (x ∷ xs) (suc r) h = shown_nth xs r (omega (arith, h))

  pub free_first : (y : Layout) (n : ℕ) (xs : List R) (rs : List ℕ) → n ≡ length xs → FitsStart shows y xs → FreeStands shows n (value_in y y.start) xs rs
  free_first y n xs rs len start r near out =
      let c = shown_nth xs r (subst (λ n. r < n) len near) in
      let f = start r c.0 c.1 in
      subst (λ (x : Shown). (same_data x.base (value_in y y.start r) ≡ true) × (same_data x.current (value_in y y.start r) ≡ true) × (fits x.number r ≡ true)) (sym c.2)
      (same_made (shows c.0).base (value_in y y.start r) f.0, same_made (shows c.0).current (value_in y y.start r) f.1, fits_of (shows c.0).number r r refl f.3)
