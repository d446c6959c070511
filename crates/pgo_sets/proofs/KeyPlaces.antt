-- What stands at the place of a key.
use Rattle.std.proofs.Common.{◌≡◌, ℕ, zero, suc, ◌<◌, List, [], ◌∷◌, length, refl, ap, ◌∙◌, subst, arith}
use Rattle.std.specs.Prelude.{Bool, true, false, if◌then◌else◌, Option, Some, None, option_map}
use Rattle.pgo_base.specs.Data.{Data}
use Rattle.pgo_model.specs.Operators.{same_data, lookup, replace_at}
use Rattle.pgo_sets.specs.KeyPlace.{key_place, value_in, set_value}
use Rattle.pgo_sets.proofs.Replacing.{same_exact}

abbrev pub At : Data → List (Data × Data) → ℕ → Type 0
At k ps n = (n < length ps) × (lookup k ps ≡ value_in n ps) × ((w : Data) → replace_at k w ps ≡ set_value n w ps)

-- the value of a key stands at its place, and is replaced there
pub at_place : (k : Data) (ps : List (Data × Data)) (n : ℕ) → key_place k ps ≡ Some n → At k ps n
at_place k [] n h = absurd (cc)
at_place k (q ∷ ps) n h = go (same_data k q.0) refl (key_place k ps) refl h (at_place k ps)
  where
    go : (b : Bool) → same_data k q.0 ≡ b → (o : Option ℕ) → key_place k ps ≡ o → (if b then Some 0 else option_map suc o) ≡ Some n → ((m : ℕ) → key_place k ps ≡ Some m → At k ps m) → At k (q ∷ ps) n
    go true t o e g ih =
        let z : 0 ≡ n = cc in
        let u : At k (q ∷ ps) 0 = (
          omega arith,
          ap (λ (b : Bool). if b then Some q.1 else lookup k ps) t,
          λ w. ap (λ (b : Bool). if b then (k, w) ∷ ps else q ∷ replace_at k w ps) t ∙ ap (λ x. (x, w) ∷ ps) (same_exact k q.0 t),
        ) in
        subst (At k (q ∷ ps)) z u
    go false t None e g ih = absurd (cc)
    go false t (Some m) e g ih =
        let z : suc m ≡ n = cc in
        let r = ih m e in
        let u : At k (q ∷ ps) (suc m) = (
          omega (arith, r.0),
          ap (λ (b : Bool). if b then Some q.1 else lookup k ps) t ∙ r.1,
          λ w. ap (λ (b : Bool). if b then (k, w) ∷ ps else q ∷ replace_at k w ps) t ∙ ap (λ l. q ∷ l) (r.2 w),
        ) in
        subst (At k (q ∷ ps)) z u

-- a key without a place has no value
pub no_place : (k : Data) (ps : List (Data × Data)) → key_place k ps ≡ None → lookup k ps ≡ None
no_place k [] h = refl
no_place k (q ∷ ps) h = go (same_data k q.0) (key_place k ps) refl h (no_place k ps)
  where
    go : (b : Bool) (o : Option ℕ) → key_place k ps ≡ o → (if b then Some 0 else option_map suc o) ≡ None → (key_place k ps ≡ None → lookup k ps ≡ None) → (if b then Some q.1 else lookup k ps) ≡ None
    go true o e g ih = absurd (cc)
    go false None e g ih = ih e
    go false (Some n) e g ih = absurd (cc)

-- the later of two values at a place stays
pub set_again : (n : ℕ) (v w : Data) (ps : List (Data × Data)) → set_value n w (set_value n v ps) ≡ set_value n w ps
set_again n v w [] = refl
set_again zero v w (p ∷ ps) = refl
set_again (suc n) v w (p ∷ ps) = ap (λ qs. p ∷ qs) (set_again n v w ps)

-- another value leaves the number of pairs as it is
pub length_set : (n : ℕ) (v : Data) (ps : List (Data × Data)) → length (set_value n v ps) ≡ length ps
length_set n v [] = refl
length_set zero v (p ∷ ps) = refl
length_set (suc n) v (p ∷ ps) = ap suc (length_set n v ps)
