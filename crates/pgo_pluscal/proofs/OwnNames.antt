-- A process's own variables, as they are declared, have the names that the written module has.
use Rattle.std.proofs.Common.{◌≡◌, List, [], ◌∷◌, ◌++◌, map, Option, Some, None, refl, ap, ◌∙◌, sym}
use Rattle.std.specs.List.{filter_map}
use Rattle.std.proofs.lemmas.List.{map-append}
use Rattle.pgo_base.specs.Lookup.{Name}
use Rattle.pgo_model.specs.Written.{written}
use Rattle.pgo_syntax.specs.declared.archetype.Archetype.{Archetype}
use Rattle.pgo_syntax.specs.declared.declaration.Declaration.{Declaration}
use Rattle.pgo_syntax.specs.declared.process.Argument.{Argument}
use Rattle.pgo_syntax.specs.declared.process.Argument.TheVariants as arguments
use Rattle.pgo_syntax.specs.declared.process.Process.{Process}
use Rattle.pgo_syntax.specs.declared.spec.Spec.{Spec}
use Rattle.pgo_bound.specs.Runs.{Handed, archetype_named, handed_from}
use Rattle.pgo_bound.specs.State.{value_name, names_or_none, own_names}
use Rattle.pgo_model.specs.Options.{on}
use Rattle.pgo_pluscal.specs.PlusCalOf.{parameter_declaration, local_declaration, own_declarations, process_of}

abbrev declared : List Declaration → List Name
declared ds = map (λ d. d.name.name) ds

module _ (p : Name) where
  abbrev parameters : List Handed → List Declaration
  parameters hs = filter_map (λ h. parameter_declaration p h.parameter.name h.argument) hs

  abbrev handed_names : List Handed → List Name
  handed_names hs = filter_map (λ h. value_name h.parameter.name.name h.argument) hs

  parameters_from : (h : Handed) (a : Argument) (hs : List Handed) → declared (parameters hs) ≡ map (written p) (handed_names hs)
      → declared (parameters (record h { argument = a } ∷ hs)) ≡ map (written p) (handed_names (record h { argument = a } ∷ hs))
  parameters_from h (arguments.Ref g e) hs ih = ih
  parameters_from h (arguments.Value place e) hs ih = ap (λ l. written p h.parameter.name.name ∷ l) ih

  parameters_are : (hs : List Handed) → declared (parameters hs) ≡ map (written p) (handed_names hs)
  parameters_are [] = refl
  parameters_are (h ∷ hs) = parameters_from h h.argument hs (parameters_are hs)

  locals_are : (ds : List Declaration) → declared (map (local_declaration p) ds) ≡ map (written p) (declared ds)
  locals_are [] = refl
  locals_are (d ∷ ds) = ap (λ l. written p d.name.name ∷ l) (locals_are ds)

own_are : (p : Process) (o : Option Archetype) → declared (on [] o (own_declarations p)) ≡ map (written p.name.name) (names_or_none p o)
own_are p None = refl
own_are p (Some a) =
    map-append (λ d. d.name.name) (parameters p.name.name (handed_from 1 a.params p.arguments)) (map (local_declaration p.name.name) a.locals)
    ∙ (λ i. parameters_are p.name.name (handed_from 1 a.params p.arguments) i ++ locals_are p.name.name a.locals i)
    ∙ sym (map-append (written p.name.name) (handed_names p.name.name (handed_from 1 a.params p.arguments)) (declared a.locals))

pub own_names_are : (s : Spec) (p : Process) → declared (process_of s p).variables ≡ map (written p.name.name) (own_names s p)
own_names_are s p = own_are p (archetype_named p.archetype.name s.archetypes)
