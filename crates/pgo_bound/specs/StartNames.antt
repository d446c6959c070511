-- The names of the starting state are the variables of the specification.
use Rattle.std.proofs.Common.{◌≡◌, List, [], ◌∷◌, ◌++◌, map, Option, Some, None, refl, ap, sym, ◌∙◌}
use Rattle.std.specs.List.{filter_map, flat_map, cons_option}
use Rattle.pgo_base.specs.Data.{Data}
use Rattle.pgo_base.specs.Lookup.{Name}
use Rattle.pgo_base.specs.declared.module.Defined.{Defined}
use Rattle.pgo_model.specs.Written.{pc, written}
use Rattle.pgo_syntax.specs.declared.archetype.Archetype.{Archetype}
use Rattle.pgo_syntax.specs.declared.archetype.Parameter.{Parameter}
use Rattle.pgo_syntax.specs.declared.declaration.Declaration.{Declaration}
use Rattle.pgo_syntax.specs.declared.process.Argument.{Argument}
use Rattle.pgo_syntax.specs.declared.process.Argument.TheVariants as arguments
use Rattle.pgo_syntax.specs.declared.process.Process.{Process}
use Rattle.pgo_syntax.specs.declared.spec.Spec.{Spec}
use Rattle.pgo_bound.specs.Runs.{Run, Handed, handed_from, archetype_named, run_with, run_of, runs_of}
use Rattle.pgo_bound.specs.BoundOf.{global_of, globals_of, global_value, own_argument, own_start, locals_of, first_places, start_of}
use Rattle.pgo_bound.specs.State.{value_name, names_with, names_or_none, own_names, variables_of}

abbrev pub name_of : Name × Data → Name
name_of p = p.0

pub map-append : {A B : Type 0} (f : A → B) (xs ys : List A) → map f (xs ++ ys) ≡ map f xs ++ map f ys
map-append f [] ys = refl
map-append f (x ∷ xs) ys = ap (λ zs. f x ∷ zs) (map-append f xs ys)

global_names : (ds : List Defined) (rs : List Run) (gs : List Declaration) → map name_of (map global_value (map (global_of ds rs) gs)) ≡ map (λ d. d.name.name) gs
global_names ds rs [] = refl
global_names ds rs (g ∷ gs) = ap (λ ns. g.name.name ∷ ns) (global_names ds rs gs)

abbrev write : Run → Name → Name
write r x = written r.process.name.name x

argument_names : (ds : List Defined) (r : Run) (hs : List Handed) → map name_of (filter_map (own_argument ds r) hs) ≡ map (write r) (filter_map (λ h. value_name h.parameter.name.name h.argument) hs)
argument_names ds r [] = refl
argument_names ds r (h ∷ hs) = go h.parameter h.argument (argument_names ds r hs)
  where
    go : (p : Parameter) (a : Argument) → map name_of (filter_map (own_argument ds r) hs) ≡ map (write r) (filter_map (λ k. value_name k.parameter.name.name k.argument) hs)
        → map name_of (cons_option (own_argument ds r (record { number = h.number; parameter = p; argument = a })) (filter_map (own_argument ds r) hs)) ≡ map (write r) (cons_option (value_name p.name.name a) (filter_map (λ k. value_name k.parameter.name.name k.argument) hs))
    go p (arguments.Ref g e) i = i
    go p (arguments.Value place e) i = ap (λ ns. write r p.name.name ∷ ns) i

local_names : (ds : List Defined) (r : Run) (ls : List Declaration) → map name_of (map (own_start ds r) ls) ≡ map (write r) (map (λ d. d.name.name) ls)
local_names ds r [] = refl
local_names ds r (d ∷ ls) = ap (λ ns. write r d.name.name ∷ ns) (local_names ds r ls)

run_names : (ds : List Defined) (p : Process) (a : Archetype) → map name_of (locals_of ds (run_with ds p a)) ≡ map (written p.name.name) (names_with p a)
run_names ds p a =
    let r = run_with ds p a in
    let hs = handed_from 1 a.params p.arguments in
    map-append name_of (filter_map (own_argument ds r) hs) (map (own_start ds r) a.locals)
    ∙ (λ i. argument_names ds r hs i ++ local_names ds r a.locals i)
    ∙ sym (map-append (written p.name.name) (filter_map (λ h. value_name h.parameter.name.name h.argument) hs) (map (λ d. d.name.name) a.locals))

all_names : (s : Spec) (ds : List Defined) (ps : List Process) → map name_of (flat_map (locals_of ds) (filter_map (run_of s ds) ps)) ≡ flat_map (λ p. map (written p.name.name) (own_names s p)) ps
all_names s ds [] = refl
all_names s ds (p ∷ ps) = go (archetype_named p.archetype.name s.archetypes) (all_names s ds ps)
  where
    go : (o : Option Archetype) → map name_of (flat_map (locals_of ds) (filter_map (run_of s ds) ps)) ≡ flat_map (λ q. map (written q.name.name) (own_names s q)) ps
        → map name_of (flat_map (locals_of ds) (cons_option (elim o as (λ x. Option Run) [ None ↦ None | Some a ↦ Some (run_with ds p a) ]) (filter_map (run_of s ds) ps))) ≡ map (written p.name.name) (names_or_none p o) ++ flat_map (λ q. map (written q.name.name) (own_names s q)) ps
    go None i = i
    go (Some a) i =
        map-append name_of (locals_of ds (run_with ds p a)) (flat_map (locals_of ds) (filter_map (run_of s ds) ps))
        ∙ (λ j. run_names ds p a j ++ i j)

pub start_names : (s : Spec) (ds : List Defined) → map name_of (start_of ds (runs_of s ds) (globals_of s ds (runs_of s ds))) ≡ variables_of s
start_names s ds =
    let rs = runs_of s ds in
    let gs = map global_value (globals_of s ds rs) in
    map-append name_of (gs ++ ((pc, first_places rs) ∷ [])) (flat_map (locals_of ds) rs)
    ∙ ap (λ ns. ns ++ map name_of (flat_map (locals_of ds) rs)) (map-append name_of gs ((pc, first_places rs) ∷ []))
    ∙ (λ i. global_names ds rs s.globals i ++ (pc ∷ []) ++ all_names s ds s.processes i)
