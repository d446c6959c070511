-- Seats that are split off one after another.
use Rattle.std.proofs.Common.{◌≡◌, ◌≢◌, ℕ, zero, suc, ◌+◌, ◌-◌, ◌<◌, false, List, [], ◌∷◌, ◌++◌, length, get_or, sym, refl, ap, ◌∙◌, subst, ⊎_elim, arith}
use Rattle.std.proofs.Math.ListN.{get_or-append}
use Rattle.atomic_table.specs.Table.{Splits}
use Rattle.pgo_model.specs.Log.{Effect}
use Rattle.pgo_workers.specs.View.{Shown, World}
use Rattle.pgo_table.specs.SeatViews.{TableTerms, SeatView, upto}
use Rattle.pgo_table.specs.Rule.{Kept}
use Rattle.pgo_table.specs.Steps.{after_split, new_seat, later, first_or}
use Rattle.pgo_table.proofs.Sums.{same_or}
use Rattle.pgo_table.proofs.Seating.{splits}

pub splits_upto : {S C : Type 0} (W : World S Effect) (M : C → Shown) (y : TableTerms) (id : ℕ) (v : SeatView) (k n : ℕ) → v.spare ≡ upto k n → 0 < n → v.gone ≡ false → Splits (Kept W M y) id v (after_split v) (new_seat v)
splits_upto W M y id v k zero spare some_left live = absurd (omega (arith, some_left))
splits_upto W M y id v k (suc n) spare some_left live = splits W M y id v k (upto (k + 1) n) spare live

-- the numbers after a split: the new seat's, and those that are left
pub parted : (spare : List ℕ) (k n : ℕ) → spare ≡ upto k n → 0 < n → (first_or 0 spare ≡ k) × (later spare ≡ upto (k + 1) (n - 1))
parted spare k zero is some_left = absurd (omega (arith, some_left))
parted spare k (suc n) is some_left = let e : suc n - 1 ≡ n = omega arith in (ap (first_or 0) is, ap later is ∙ ap (upto (k + 1)) (sym e))

get_or-append_last : {A : Type 0} (xs : List A) (x d : A) (n : ℕ) → length xs ≡ n → get_or (xs ++ x ∷ []) n d ≡ x
get_or-append_last [] x d zero e = refl
get_or-append_last [] x d (suc n) e = absurd (omega (arith, e))
get_or-append_last (y ∷ ys) x d zero e = absurd (omega (arith, e))
get_or-append_last (y ∷ ys) x d (suc n) e = get_or-append_last ys x d n (omega (arith, e))

pub pushed_each : {A : Type 0} (P : ℕ → A → Type 0) (xs ys : List A) (x : A) (n : ℕ) → length xs ≡ n → ys ≡ xs ++ x ∷ [] → ((k : ℕ) (d : A) → k < n → P k (get_or xs k d)) → P n x → (k : ℕ) (d : A) → k < n + 1 → P k (get_or ys k d)
pushed_each {A} P xs ys x n long is each last k d near = subst (λ (l : List A). P k (get_or l k d)) (sym is) (⊎_elim
    (λ (e : k ≡ n). subst (λ (i : ℕ). P i (get_or (xs ++ x ∷ []) i d)) (sym e) (subst (P n) (sym (get_or-append_last xs x d n long)) last))
    (λ (ne : k ≢ n). let before : k < n = omega (arith, near, ne) in subst (P k) (sym (get_or-append xs (x ∷ []) d k (omega (arith, before, long)))) (each k d before))
    (same_or k n))
