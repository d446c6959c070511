-- Lists that grow at their end, and states along a journal.
use Rattle.std.proofs.Common.{◌≡◌, ◌≤◌, ◌<◌, ℕ, zero, suc, List, [], ◌∷◌, ◌++◌, length, Some, refl, ap, arith, ◌⊎◌, inl, inr}
use Rattle.std.proofs.lemmas.Option.{same_Some}
use Rattle.pgo_model.specs.Machine.{Rules, Entry, nth, state_at}

-- a longer list has its members where they were
pub nth_left : {A : Type 0} (l k : List A) (n : ℕ) (x : A) → nth l n ≡ Some x → nth (l ++ k) n ≡ Some x
nth_left [] k n x h = absurd (grind arith)
nth_left (y ∷ l) k zero x h = h
nth_left (y ∷ l) k (suc n) x h = nth_left l k n x h

-- the member that was added stands last
pub nth_last : {A : Type 0} (l : List A) (x : A) → nth (l ++ (x ∷ [])) (length l) ≡ Some x
nth_last [] x = refl
nth_last (y ∷ l) x = nth_last l x

-- a member's place is below the length
pub nth_below : {A : Type 0} (l : List A) (n : ℕ) (x : A) → nth l n ≡ Some x → n < length l
nth_below [] n x h = absurd (grind arith)
nth_below (y ∷ l) zero x h = omega arith
nth_below (y ∷ l) (suc n) x h = let q = nth_below l n x h in omega (arith, q)

-- a member of a list with one more is a former member or the one added
pub nth_end : {A : Type 0} (l : List A) (y : A) (n : ℕ) (x : A) → nth (l ++ (y ∷ [])) n ≡ Some x → (nth l n ≡ Some x) ⊎ ((n ≡ length l) × (y ≡ x))
nth_end [] y zero x h = inr (refl, same_Some y x h)
nth_end [] y (suc n) x h = absurd (grind arith)
nth_end (z ∷ l) y zero x h = inl h
nth_end (z ∷ l) y (suc n) x h = go (nth_end l y n x h)
  where
    go : (nth l n ≡ Some x) ⊎ ((n ≡ length l) × (y ≡ x)) → (nth l n ≡ Some x) ⊎ ((suc n ≡ suc (length l)) × (y ≡ x))
    go (inl h) = inl h
    go (inr h) = inr (ap suc h.0, h.1)

module _ {S D : Type 0} (R : Rules S D) where
  -- a longer journal has the same states along the former entries
  pub state_below : (s : S) (l k : List (Entry D)) (n : ℕ) → n ≤ length l → state_at R s (l ++ k) n ≡ state_at R s l n
  state_below s l k zero h = refl
  state_below s [] k (suc n) h = absurd (omega (arith, h))
  state_below s (e ∷ l) k (suc n) h = state_below (R.patched s e.change) l k n (let q : n ≤ length l = omega (arith, h) in q)

  -- the state after the entry that was added
  pub state_next : (s : S) (l : List (Entry D)) (e : Entry D) → state_at R s (l ++ (e ∷ [])) (suc (length l)) ≡ R.patched (state_at R s l (length l)) e.change
  state_next s [] e = refl
  state_next s (d ∷ l) e = state_next (R.patched s d.change) l e
