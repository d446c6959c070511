-- Where names differ, it is the same to look for one from the end.
use Rattle.std.proofs.Common.{◌≡◌, Bool, true, false, List, [], ◌∷◌, map, Option, Some, None, refl, sym, ap, ◌∙◌, subst}
use Rattle.std.proofs.lemmas.List.{reverse-append}
use Rattle.std.specs.Prelude.{reverse, if◌then◌else◌}
use Rattle.std.specs.List.{AllByRecursion}
use Rattle.pgo_base.specs.Lookup.{Name, same_name, find}
use Rattle.pgo_model.specs.Names.{same_name-is, or_that, find_append}
use Rattle.pgo_bound.specs.State.{AreDifferent}

module _ {A : Type 0} where
  absent : (x : Name) (ps : List (Name × A)) → AllByRecursion (λ y. same_name x y ≡ false) (map (λ p. p.0) ps) → find x ps ≡ None
  absent x [] h = refl
  absent x (p ∷ ps) h = ap (λ b. if b then Some p.1 else find x ps) h.0 ∙ absent x ps h.1

  that_none : (o : Option A) → or_that o None ≡ o
  that_none None = refl
  that_none (Some v) = refl

  pub found_back : (x : Name) (ps : List (Name × A)) → AreDifferent (map (λ p. p.0) ps) → find x (reverse ps) ≡ find x ps
  found_back x [] h = refl
  found_back x (p ∷ ps) h =
      ap (find x) (reverse-append (p ∷ []) ps)
      ∙ find_append x (reverse ps) (p ∷ [])
      ∙ ap (λ o. or_that o (find x (p ∷ []))) (found_back x ps h.1)
      ∙ go (same_name x p.0) refl
    where
      go : (b : Bool) → same_name x p.0 ≡ b → or_that (find x ps) (if b then Some p.1 else None) ≡ (if b then Some p.1 else find x ps)
      go true e = ap (λ o. or_that o (Some p.1)) (subst (λ y. find y ps ≡ None) (sym (same_name-is x p.0 e)) (absent p.0 ps h.0))
      go false e = that_none (find x ps)
