-- The end that the last of some records shows.
use Rattle.std.proofs.Common.{◌≡◌, ℕ, zero, suc, List, [], ◌∷◌, length, map, get_or, refl, ◌∙◌, arith}
use Rattle.pgo_model.specs.Core.{end_by}
use Rattle.pgo_model.specs.Machine.{Record, Step, Noted, Held, Down, Full}
use Rattle.pgo_model.specs.Outcome.{Blocked, NoValue, AssertFails, Many}

pub end_by_last : (x z : Record) (l : List Record) → end_by (x ∷ (z ∷ l)) ≡ end_by (z ∷ l)
end_by_last (Step n) z l = refl
end_by_last (Noted Blocked p) z l = refl
end_by_last (Noted NoValue p) z l = refl
end_by_last (Noted AssertFails p) z l = refl
end_by_last (Noted Many p) z l = refl
end_by_last (Held r h) z l = refl
end_by_last (Down r o) z l = refl
end_by_last (Full n) z l = refl

pub last_is : {A : Type 0} (f : A → Record) (l : List A) (n : ℕ) (d : A) → suc n ≡ length l → end_by (map f l) ≡ end_by (f (get_or l n d) ∷ [])
last_is f [] n d e = absurd (omega (arith, e))
last_is f (x ∷ []) zero d e = refl
last_is f (x ∷ []) (suc n) d e = absurd (omega (arith, e))
last_is f (x ∷ (z ∷ l)) zero d e = absurd (omega (arith, e))
last_is f (x ∷ (z ∷ l)) (suc n) d e = end_by_last (f x) (f z) (map f l) ∙ last_is f (z ∷ l) n d (let q : suc n ≡ length (z ∷ l) = omega (arith, e) in q)
