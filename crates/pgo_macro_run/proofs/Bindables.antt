-- Which values can be bound: those that nest at most 2,047 deep.
use Rattle.std.proofs.Common.{◌≡◌, suc, ◌<◌, Bool, true, false, [], ◌∷◌, Some, None, option_map, refl, ap, ◌∙◌, arith}
use Rattle.std.specs.Prelude.{if◌then◌else◌, nat_lt, max}
use Rattle.std.proofs.lemmas.Bool.Decides.{nat_tests}
use Rattle.pgo_base.specs.Data.{Data, set, items}
use Rattle.pgo_base.specs.Size.{depth}
use Rattle.pgo_model.specs.Operators.{if_few, most_depth}
use Rattle.pgo_sections.specs.BoundValues.{bindable}

bindable_by : (v : Data) (b : Bool) → nat_lt most_depth (depth (set (items (v ∷ [])))) ≡ b → bindable (Some v) ≡ (if b then None else Some v)
bindable_by v b e = ap (λ t. option_map (λ x. v) (if t then None else if_few 1 (set (items (v ∷ []))))) e ∙ go b
  where
    go : (t : Bool) → option_map (λ x. v) (if t then None else if_few 1 (set (items (v ∷ [])))) ≡ (if t then None else Some v)
    go true = refl
    go false = refl

pub deep_unbound : (v : Data) → 2047 < depth v → bindable (Some v) ≡ None
deep_unbound v h =
    let m : max (depth v) 0 ≡ depth v = omega arith in
    bindable_by v true (ap (λ d. nat_lt 2048 (suc d)) m ∙ (grind (arith, nat_tests)))

pub shallow_bound : (v : Data) → ¬ (2047 < depth v) → bindable (Some v) ≡ Some v
shallow_bound v h =
    let m : max (depth v) 0 ≡ depth v = omega arith in
    bindable_by v false (ap (λ d. nat_lt 2048 (suc d)) m ∙ (grind (arith, nat_tests)))
