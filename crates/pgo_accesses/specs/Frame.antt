-- What two states have to agree on, so that a section does the same on both, and what its ends agree on.
use Rattle.std.specs.Prelude.{◌≡◌, ℕ, true, List, [], ◌∷◌}
use Rattle.pgo_base.specs.Data.{Data}
use Rattle.pgo_model.specs.Outcome.{Outcome, Next, Stuck, Nowhere}
use Rattle.pgo_workers.specs.View.{World}

-- two assignments of values agree on these resources
abbrev pub AgreeOn : List ℕ → (ℕ → Data) → (ℕ → Data) → Type 0
AgreeOn [] f g = Unit {0}
AgreeOn (r ∷ rs) f g = (f r ≡ g r) × AgreeOn rs f g

-- two ends, on s and on t, are of one kind, print the same, and agree on the own components of instance k and on each resource
-- on which s and t agree
abbrev pub SameEnd : {S D : Type 0} → World S D → ℕ → (s t : S) → Outcome S → Outcome S → Type 0
SameEnd W k s t (Next u ps) (Next v qs) = (ps ≡ qs) × (W.own u k ≡ W.own v k) × ((r : ℕ) → W.is_resource r ≡ true → W.value s r ≡ W.value t r → W.value u r ≡ W.value v r)
SameEnd W k s t (Stuck i) (Stuck j) = i ≡ j
SameEnd W k s t Nowhere Nowhere = Unit {0}
SameEnd W k s t _ _ = ⊥
