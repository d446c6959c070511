-- The state behind the first entries, where these are seen as parts of what lies in memory.
use Rattle.std.proofs.Common.{◌≡◌, ◌<◌, ◌≤◌, ℕ, zero, suc, List, [], ◌∷◌, length, take, map, Option, Some, None, refl, arith}
use Rattle.std.specs.Prelude.{option_and_then}
use Rattle.pgo_base.specs.Lookup.{Vars}
use Rattle.pgo_model.specs.Log.{Effect, After, StateAt}
use Rattle.pgo_model.specs.Machine.{Entry}
use Rattle.pgo_show_text.specs.Facts.{behind_all}

-- where each state leads to none, so does a state or none
none_behind : (o : Option Vars) (f : Vars → Option Vars) → ((t : Vars) → f t ≡ None) → option_and_then f o ≡ None
none_behind None f h = refl
none_behind (Some t) f h = h t

same_behind : (o : Option Vars) (f g : Vars → Option Vars) → ((t : Vars) → f t ≡ g t) → option_and_then f o ≡ option_and_then g o
same_behind None f g h = refl
same_behind (Some t) f g h = h t

pub too_few : {D E : Type 0} (part : E → Entry Effect) (view : D → E) (s : Vars) (es : List D) (n : ℕ) → length es < n → StateAt s (map part (map view es)) n ≡ None
too_few part view s es zero h = absurd (omega (arith, h))
too_few part view s [] (suc n) h = refl
too_few part view s (e ∷ es) (suc n) h =
    let less : length es < n = omega (arith, h) in
    none_behind (After s (part (view e)).change) (λ t. StateAt t (map part (map view es)) n) (λ t. too_few part view t es n less)

pub at_front : {D E : Type 0} (part : E → Entry Effect) (view : D → E) (s : Vars) (es : List D) (n : ℕ) → n ≤ length es
    → behind_all s (map part (map view (take n es))) ≡ StateAt s (map part (map view es)) n
at_front part view s es zero h = refl
at_front part view s [] (suc n) h = absurd (omega (arith, h))
at_front part view s (e ∷ es) (suc n) h =
    let within : n ≤ length es = omega (arith, h) in
    same_behind (After s (part (view e)).change) (λ t. behind_all t (map part (map view (take n es)))) (λ t. StateAt t (map part (map view es)) n)
    (λ t. at_front part view t es n within)
