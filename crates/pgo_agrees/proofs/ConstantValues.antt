-- Where the constants' values are values, so are those that the definitions are given.
use Rattle.std.proofs.Common.{◌≡◌, Bool, true, false, if◌then◌else◌, List, [], ◌∷◌, ◌++◌, map, Option, Some, None, option_map, refl, sym, subst}
use Rattle.std.specs.List.{AllByRecursion, filter_map, cons_option}
use Rattle.std.proofs.lemmas.Option.{same_Some}
use Rattle.pgo_base.specs.Data.{Data}
use Rattle.pgo_base.specs.Lookup.{Name, same_name}
use Rattle.pgo_base.specs.ValueCode.{value_from}
use Rattle.pgo_base.specs.declared.module.Defined.{Defined}
use Rattle.pgo_base.specs.declared.module.Defined.TheVariants.{Given}
use Rattle.pgo_model.specs.ModuleView.{defined_view}
use Rattle.pgo_model.specs.State.{AllValues}
use Rattle.pgo_model.specs.Value.{IsValue}
use Rattle.pgo_syntax.specs.declared.name.PlacedName.{PlacedName}
use Rattle.pgo_syntax.specs.declared.declaration.Definition.{Definition}
use Rattle.pgo_syntax.specs.declared.spec.Spec.{Spec}
use Rattle.pgo_bound.specs.Lookups.{data_from}
use Rattle.pgo_bound.specs.Values.{latest, given_value, given_constant, meant, default_definition, define_of}
use Rattle.pgo_translate.specs.Premises.{GivenValue, ConstantsAreValues}

latest_value : (x : Name) (o : Option Data) (cs : List (Name × Data)) → AllValues cs → ((v : Data) → o ≡ Some v → IsValue v) → (v : Data) → latest x o cs ≡ Some v → IsValue v
latest_value x o [] h f v e = f v e
latest_value x o (c ∷ cs) h f v e = latest_value x (if same_name x c.0 then Some c.1 else o) cs h.1 (go (same_name x c.0)) v e
  where
    go : (b : Bool) (w : Data) → (if b then Some c.1 else o) ≡ Some w → IsValue w
    go true w g = subst IsValue (same_Some c.1 w g) h.0
    go false w g = f w g

abbrev AreGiven : List Defined → Type 0
AreGiven ds = AllByRecursion GivenValue (map defined_view ds)

joined : (ds es : List Defined) → AreGiven ds → AreGiven es → AreGiven (ds ++ es)
joined [] es h g = g
joined (d ∷ ds) es h g = (h.0, joined ds es h.1 g)

given : (consts : List (Name × Data)) → AllValues consts → (cs : List PlacedName) → AreGiven (filter_map (given_constant consts) cs)
given consts h [] = tt
given consts h (c ∷ cs) = go (given_value consts c.name) refl (given consts h cs)
  where
    none : (v : Data) → None ≡ Some v → IsValue v
    none v e = absurd (cc)

    go : (o : Option Data) → given_value consts c.name ≡ o → AreGiven (filter_map (given_constant consts) cs)
        → AreGiven (cons_option (option_map (λ v. Given c.name (value_from v)) o) (filter_map (given_constant consts) cs))
    go None e r = r
    go (Some v) e r = (subst IsValue (sym (data_from v)) (latest_value c.name None consts h none v e), r)

means : (ds : List Definition) → AreGiven (map meant ds)
means [] = tt
means (d ∷ ds) = (tt, means ds)

pub constants_are_values : (s : Spec) (consts : List (Name × Data)) → AllValues consts → ConstantsAreValues s consts
constants_are_values s consts h =
    let front = filter_map (given_constant consts) s.constants in
    let one = map meant s.definitions in
    joined (front ++ (default_definition ∷ []) ++ one) (map meant (define_of s.define)) (joined (front ++ (default_definition ∷ [])) one (joined front (default_definition ∷ []) (given consts h s.constants) (tt, tt)) (means s.definitions)) (means (define_of s.define))
