-- What the parameters and locals of an instance stand for, one after the other.
use Rattle.std.proofs.Common.{◌≡◌, ◌∙◌, List, [], ◌∷◌, ◌++◌, Some, None, map, refl, ap, sym, append_assoc}
use Rattle.std.proofs.lemmas.List.{map-append}
use Rattle.pgo_base.specs.Lookup.{Name}
use Rattle.pgo_model.specs.Written.{written}
use Rattle.pgo_syntax.specs.declared.bound.Binding.{Binding}
use Rattle.pgo_syntax.specs.declared.bound.Bound.{Bound}
use Rattle.pgo_syntax.specs.declared.bound.Instance.{Instance}
use Rattle.pgo_syntax.specs.declared.bound.Target as targets
use Rattle.pgo_syntax.specs.declared.bound.Target.TheVariants.{Value, Global}
use Rattle.pgo_syntax.specs.declared.declaration.Declaration.{Declaration}
use Rattle.pgo_sections.specs.Code.{Place}
use Rattle.pgo_meaning.specs.Parameters.{place_of, parameter_places, local_places}
use Rattle.pgo_code.specs.Steps.{Target, Own}
use Rattle.pgo_lower.specs.Globals.{targeted, targets_in}

place_front : (p x : Name) (h : targets.Target) (rest : List (Name × Place)) → place_of p x h rest ≡ place_of p x h [] ++ rest
place_front p x (Value e) rest = refl
place_front p x (Global g e None) rest = refl
place_front p x (Global g e (Some m)) rest = refl

-- a parameter is added
pub parameter_step : (b : Bound) (p : Name) (bs rest : List Binding) (x : Binding) (us vs : List (Name × Target)) → bs ≡ x ∷ rest
    → vs ≡ us ++ map (targeted b) (place_of p x.parameter x.target [])
    → vs ++ map (targeted b) (parameter_places p rest) ≡ us ++ map (targeted b) (parameter_places p bs)
parameter_step b p bs rest x us vs e h =
    let first = place_of p x.parameter x.target [] in
    ap (λ l. l ++ map (targeted b) (parameter_places p rest)) h
    ∙ append_assoc us (map (targeted b) first) (map (targeted b) (parameter_places p rest))
    ∙ ap (λ l. us ++ l) (sym (map-append (targeted b) first (parameter_places p rest)) ∙ ap (map (targeted b)) (sym (place_front p x.parameter x.target (parameter_places p rest))))
    ∙ ap (λ l. us ++ map (targeted b) (parameter_places p l)) (sym e)

locals_there : (b : Bound) (p : Name) (ds : List Declaration) → map (targeted b) (local_places p ds) ≡ map (λ d. (d.name.name, Own (written p d.name.name))) ds
locals_there b p [] = refl
locals_there b p (d ∷ ds) = ap (λ l. (d.name.name, Own (written p d.name.name)) ∷ l) (locals_there b p ds)

pub slots_law : (b : Bound) (i : Instance) (us vs : List (Name × Target)) → us ≡ map (targeted b) (parameter_places i.process i.bindings)
    → vs ≡ us ++ map (λ d. (d.name.name, Own (written i.process d.name.name))) i.archetype.locals → vs ≡ targets_in b i
slots_law b i us vs e h =
    h
    ∙ (λ z. e z ++ sym (locals_there b i.process i.archetype.locals) z)
    ∙ sym (map-append (targeted b) (parameter_places i.process i.bindings) (local_places i.process i.archetype.locals))
