-- What reads a value, by the bytes at the front.
use Rattle.std.proofs.Common.{◌≡◌, ℕ, zero, suc, ◌-◌, true, false, List, None, refl, ◌∙◌, ap, arith}
use Rattle.std.specs.Prelude.{codes}
use Rattle.pgo_value_text.specs.Reading.{begins, set_of, tuple_of, record_of, function_of, atom, form, value}
use Rattle.pgo_value_text.proofs.Steps.{cond_true, cond_false}

pub too_deep : (n : ℕ) (bs : List ℕ) → n ≡ 0 → value n bs ≡ None
unfolding value
too_deep n bs h = ap (λ m. value m bs) h

deeper : (n : ℕ) (bs : List ℕ) → (n ≡ 0 → ⊥) → value n bs ≡ form (value (n - 1)) bs
unfolding value
deeper zero bs h = absurd (h refl)
deeper (suc n) bs h = let e : n ≡ suc n - 1 = omega arith in ap (λ m. form (value m) bs) e

module _ (n : ℕ) (bs : List ℕ) (h : n ≡ 0 → ⊥) where
  pub reads_set : begins (codes "{") bs ≡ true → value n bs ≡ set_of (value (n - 1)) bs
  unfolding form
  reads_set a = deeper n bs h ∙ cond_true _ _ _ a

  pub reads_tuple : begins (codes "{") bs ≡ false → begins (codes "<<") bs ≡ true → value n bs ≡ tuple_of (value (n - 1)) bs
  unfolding form
  reads_tuple a b = deeper n bs h ∙ cond_false _ _ _ a ∙ cond_true _ _ _ b

  pub reads_record : begins (codes "{") bs ≡ false → begins (codes "<<") bs ≡ false → begins (codes "[") bs ≡ true → value n bs ≡ record_of (value (n - 1)) bs
  unfolding form
  reads_record a b c = deeper n bs h ∙ cond_false _ _ _ a ∙ cond_false _ _ _ b ∙ cond_true _ _ _ c

  pub reads_function : begins (codes "{") bs ≡ false → begins (codes "<<") bs ≡ false → begins (codes "[") bs ≡ false → begins (codes "(") bs ≡ true → value n bs ≡ function_of (value (n - 1)) bs
  unfolding form
  reads_function a b c d = deeper n bs h ∙ cond_false _ _ _ a ∙ cond_false _ _ _ b ∙ cond_false _ _ _ c ∙ cond_true _ _ _ d

  pub reads_atom : begins (codes "{") bs ≡ false → begins (codes "<<") bs ≡ false → begins (codes "[") bs ≡ false → begins (codes "(") bs ≡ false → value n bs ≡ atom bs
  unfolding form
  reads_atom a b c d = deeper n bs h ∙ cond_false _ _ _ a ∙ cond_false _ _ _ b ∙ cond_false _ _ _ c ∙ cond_false _ _ _ d
