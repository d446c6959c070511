-- The variables of a specification are the names of its globals, `pc`, and the names that its processes' own variables have.
use Rattle.std.proofs.Common.{◌≡◌, List, [], ◌∷◌, ◌++◌, map, refl, ap}
use Rattle.std.specs.List.{flat_map}
use Rattle.pgo_model.specs.Written.{written, pc}
use Rattle.pgo_syntax.specs.declared.declaration.Declaration.{Declaration}
use Rattle.pgo_syntax.specs.declared.process.Process.{Process}
use Rattle.pgo_syntax.specs.declared.spec.Spec.{Spec}
use Rattle.pgo_bound.specs.State.{own_names, variables_of}
use Rattle.pgo_pluscal.proofs.OwnNames.{own_names_are}
use Rattle.pgo_expand.specs.Module.{globals_of, own_in}

own_are : (s : Spec) (ps : List Process)
    → flat_map (λ (ds : List Declaration). map (λ d. d.name.name) ds) (map (own_in s.archetypes) ps) ≡ flat_map (λ p. map (written p.name.name) (own_names s p)) ps
own_are s [] = refl
own_are s (p ∷ ps) = (λ i. own_names_are s p i ++ own_are s ps i)

pub all_names : (s : Spec)
    → (globals_of s ++ (pc ∷ [])) ++ flat_map (λ (ds : List Declaration). map (λ d. d.name.name) ds) (map (own_in s.archetypes) s.processes) ≡ variables_of s
all_names s = ap (λ l. (globals_of s ++ (pc ∷ [])) ++ l) (own_are s s.processes)
