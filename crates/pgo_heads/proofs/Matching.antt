-- Parameters with their arguments, and constants with their values.
use Rattle.std.proofs.Common.{◌≡◌, ℕ, zero, suc, ◌+◌, ◌≤◌, min, List, [], ◌∷◌, ◌++◌, length, drop, Some, option_map, refl, ap, sym, ◌∙◌, append_assoc, arith}
use Rattle.std.specs.List.{filter_map, cons_option}
use Rattle.pgo_base.specs.Data.{Data}
use Rattle.pgo_base.specs.View.{data_of}
use Rattle.pgo_base.specs.ValueCode.{value_from, value_back}
use Rattle.pgo_base.specs.Lookup.{Name}
use Rattle.pgo_base.specs.declared.value.Value.{Value}
use Rattle.pgo_base.specs.declared.module.Defined.{Defined}
use Rattle.pgo_base.specs.declared.module.Defined.TheVariants.{Given}
use Rattle.pgo_syntax.specs.declared.name.PlacedName.{PlacedName}
use Rattle.pgo_syntax.specs.declared.archetype.Parameter.{Parameter}
use Rattle.pgo_syntax.specs.declared.process.Argument.{Argument}
use Rattle.pgo_bound.specs.Runs.{handed_from}
use Rattle.pgo_bound.specs.Values.{given_value, given_constant}

none_left : (n : ℕ) (ps : List Parameter) → handed_from n ps [] ≡ []
none_left n [] = refl
none_left n (p ∷ ps) = refl

-- past the shorter list there is nothing
pub handed_end : (n i : ℕ) (ps : List Parameter) (as' : List Argument) → min (length ps) (length as') ≤ i → handed_from n (drop i ps) (drop i as') ≡ []
handed_end n zero [] as' h = refl
handed_end n zero (p ∷ ps) [] h = refl
handed_end n zero (p ∷ ps) (a ∷ as') h = absurd (omega arith)
handed_end n (suc i) [] as' h = refl
handed_end n (suc i) (p ∷ ps) [] h = none_left n (drop i ps)
handed_end n (suc i) (p ∷ ps) (a ∷ as') h = handed_end n i ps as' (omega arith)

-- a constant that is given is a definition more
pub constant_step : (consts : List (Name × Data)) (c : PlacedName) (rest : List PlacedName) (defs new : List Defined) (v w : Value) (x : Name) → Some (data_of v) ≡ given_value consts c.name → new ≡ defs ++ Given x w ∷ [] → x ≡ c.name → w ≡ v → defs ++ filter_map (given_constant consts) (c ∷ rest) ≡ new ++ filter_map (given_constant consts) rest
constant_step consts c rest defs new v w x found e n g =
    let one : given_constant consts c ≡ Some (Given x w) = ap (option_map (λ d. Given c.name (value_from d))) (sym found) ∙ (λ i. Some (Given (sym n i) ((value_back v ∙ sym g) i))) in
    ap (λ o. defs ++ cons_option o (filter_map (given_constant consts) rest)) one
    ∙ sym (append_assoc defs (Given x w ∷ []) (filter_map (given_constant consts) rest))
    ∙ ap (λ ds. ds ++ filter_map (given_constant consts) rest) (sym e)
