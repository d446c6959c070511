-- Counted bytes: what is taken, and when there are too few.
use Rattle.std.proofs.Common.{◌≡◌, ◌≤◌, ◌<◌, ℕ, zero, suc, List, [], ◌∷◌, ◌++◌, length, take, drop, Some, None, refl, sym, ◌∙◌, ap, arith, length-append}
use Rattle.std.proofs.lemmas.List.{length-take-le, take-append-drop}
use Rattle.pgo_value_text.proofs.Steps.{some_pair}
use Rattle.pgo_log_text.specs.Parsers.{Outcome}
use Rattle.pgo_log_text.specs.Bytes.{taken}

pub taken_some : (n : ℕ) (bs x r : List ℕ) → taken n bs ≡ Some (x, r) → (bs ≡ x ++ r) × (length x ≡ n)
taken_some zero bs x r h = let p = some_pair [] x bs r h in ((λ j. p.0 j ++ p.1 j), sym (ap length p.0))
taken_some (suc n) [] x r h = absurd (cc)
taken_some (suc n) (b ∷ bs) x r h = go (taken n bs) h (taken_some n bs)
  where
    go : (o : Outcome (List ℕ)) → elim o as (λ o. Outcome (List ℕ)) [ None ↦ None | Some p ↦ Some (b ∷ p.0, p.1) ] ≡ Some (x, r) → ((x r : List ℕ) → o ≡ Some (x, r) → (bs ≡ x ++ r) × (length x ≡ n)) → (b ∷ bs ≡ x ++ r) × (length x ≡ suc n)
    go None h ih = absurd (cc)
    go (Some p) h ih =
        let q = some_pair (b ∷ p.0) x p.1 r h in
        let k = ih p.0 p.1 refl in
        (ap (λ l. b ∷ l) k.0 ∙ (λ j. q.0 j ++ q.1 j), sym (ap length q.0) ∙ ap suc k.1)

pub taken_finds : (x r : List ℕ) → taken (length x) (x ++ r) ≡ Some (x, r)
taken_finds [] r = refl
taken_finds (b ∷ x) r = ap (λ (o : Outcome (List ℕ)). elim o as (λ o. Outcome (List ℕ)) [ None ↦ None | Some p ↦ Some (b ∷ p.0, p.1) ]) (taken_finds x r)

-- so many bytes are there
pub taken_all : (n : ℕ) (bs : List ℕ) → n ≤ length bs → taken n bs ≡ Some (take n bs, drop n bs)
taken_all n bs h =
    (λ i. taken (sym (length-take-le n bs h) i) (sym (take-append-drop n bs) i)) ∙ taken_finds (take n bs) (drop n bs)

-- and are not
pub taken_none : (n : ℕ) (bs : List ℕ) → length bs < n → taken n bs ≡ None
taken_none n bs h = go (taken n bs) refl
  where
    too_many : (x r : List ℕ) → bs ≡ x ++ r → length x ≡ n → ⊥
    too_many x r e l = let k : length bs ≡ length (x ++ r) = ap length e in omega (arith, length-append x r)

    go : (o : Outcome (List ℕ)) → taken n bs ≡ o → o ≡ None
    go (Some p) e = let k = taken_some n bs p.0 p.1 e in absurd (too_many p.0 p.1 k.0 k.1)
    go None e = refl
