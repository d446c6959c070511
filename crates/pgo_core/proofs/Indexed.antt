-- What stands at an index.
use Rattle.std.proofs.Common.{◌≡◌, ◌<◌, ℕ, zero, suc, List, [], ◌∷◌, length, Some, refl, sym, ap, ◌∙◌, arith, get_or}
use Rattle.pgo_model.specs.Machine.{nth}

nth_here : {A : Type 0} (l : List A) (k : ℕ) (x : A) → k < length l → nth l k ≡ Some (get_or l k x)
nth_here [] k x h = absurd (omega (arith, h))
nth_here (y ∷ l) zero x h = refl
nth_here (y ∷ l) (suc k) x h = nth_here l k x (omega (arith, h))

pub nth_read : {A : Type 0} (l : List A) (n k : ℕ) (x : A) → n ≡ length l → k < n → x ≡ get_or l k x → nth l k ≡ Some x
nth_read l n k x len h e = nth_here l k x (omega (arith, len, h)) ∙ ap Some (sym e)
