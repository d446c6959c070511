-- Each variable of a specification is a name of the written module, as often as it stands.
use Rattle.std.proofs.Common.{◌≡◌, ◌≤◌, ℕ, suc, ◌+◌, Bool, true, false, if◌then◌else◌, List, [], ◌∷◌, ◌++◌, map, Option, Some, None, refl, ap, ◌∙◌, arith}
use Rattle.std.specs.List.{AllByRecursion, filter_map, flat_map, cons_option}
use Rattle.pgo_base.specs.Lookup.{Name, same_name, find}
use Rattle.pgo_model.specs.Written.{pc, written}
use Rattle.pgo_syntax.specs.declared.name.PlacedName.{PlacedName}
use Rattle.pgo_syntax.specs.declared.archetype.Archetype.{Archetype}
use Rattle.pgo_syntax.specs.declared.archetype.Parameter.{Parameter}
use Rattle.pgo_syntax.specs.declared.archetype.ParameterKind.{ParameterKind}
use Rattle.pgo_syntax.specs.declared.archetype.ParameterKind.TheVariants as kinds
use Rattle.pgo_syntax.specs.declared.declaration.Declaration.{Declaration}
use Rattle.pgo_syntax.specs.declared.process.Argument.{Argument}
use Rattle.pgo_syntax.specs.declared.process.Argument.TheVariants as arguments
use Rattle.pgo_syntax.specs.declared.process.Process.{Process}
use Rattle.pgo_syntax.specs.declared.spec.Spec.{Spec}
use Rattle.pgo_uses.specs.AllUses.{all_uses, archetype_uses, variable_names}
use Rattle.pgo_uses.specs.Heads.{declared_names, definition_names, shared_names}
use Rattle.pgo_uses.specs.Tables.{all_definitions}
use Rattle.pgo_scope.specs.declared.module_names.ModuleName.{ModuleName}
use Rattle.pgo_scope.specs.TextOrder.{in_text_order}
use Rattle.pgo_scope.specs.Clash.{fixed_names, fixed_module_names, shared_module_names, bound_module_names, value_names, labels_from, own_names, own_rows, or_none, own_module_names, process_module_names, module_names_with, name_clashes}
use Rattle.pgo_bound.specs.Runs.{Handed, handed_from, archetype_named}
use Rattle.pgo_bound.specs.State as bind
use Rattle.pgo_accept.proofs.Counted.{one_if, times, times-append, times-map_append}
use Rattle.pgo_accept.proofs.WrittenOnce.{writes, writes-append, writes_in_order, written_once}
use Rattle.pgo_accept.proofs.Fitting.{Fits, ArgumentsFit, is_stray}

-- ---- globals and fixed names

pub fixed_written : (x : Name) (ns : List Name) → writes x (fixed_module_names ns) ≡ times x ns
fixed_written x [] = refl
fixed_written x (n ∷ ns) = ap (λ k. one_if (same_name x n) + k) (fixed_written x ns)

pc_written : (x : Name) → times x (pc ∷ []) ≤ writes x (fixed_module_names fixed_names)
pc_written x = omega (arith, fixed_written x fixed_names)

pub shared-append : (x : Name) (ms ns : List PlacedName) → writes x (shared_module_names (ms ++ ns)) ≡ writes x (shared_module_names ms) + writes x (shared_module_names ns)
shared-append x [] ns = omega arith
shared-append x (m ∷ ms) ns = omega (arith, shared-append x ms ns)

declared_written : (x : Name) (ds : List Declaration) → writes x (shared_module_names (declared_names ds)) ≡ times x (map (λ d. d.name.name) ds)
declared_written x [] = refl
declared_written x (d ∷ ds) = ap (λ k. one_if (same_name x d.name.name) + k) (declared_written x ds)

globals_written : (x : Name) (s : Spec) → times x (map (λ d. d.name.name) s.globals) ≤ writes x (shared_module_names (shared_names s))
globals_written x s =
    omega (arith, shared-append x (s.constants ++ definition_names (all_definitions s)) (declared_names s.globals), declared_written x s.globals)

-- ---- the names of one process

pub variables_are : (ds : List Declaration) → variable_names ds ≡ map (λ d. d.name.name) ds
variables_are [] = refl
variables_are (d ∷ ds) = ap (λ ns. d.name.name ∷ ns) (variables_are ds)

abbrev pub handed_value : Handed → Option Name
handed_value h = bind.value_name h.parameter.name.name h.argument

-- a parameter that is handed a value is a value parameter
pub values_counted : (f : Name → Name) (x : Name) (n : ℕ) (ps : List Parameter) (es : List Argument) → AllByRecursion Fits (handed_from n ps es)
    → times x (map f (filter_map handed_value (handed_from n ps es))) ≤ times x (map f (value_names ps))
values_counted f x n [] es h = omega arith
values_counted f x n (p ∷ ps) [] h = omega arith
values_counted f x n (p ∷ ps) (e ∷ es) h = go p.kind e h.0 (values_counted f x (suc n) ps es h.1)
  where
    go : (k : ParameterKind) (e : Argument) → is_stray k e ≡ false → times x (map f (filter_map handed_value (handed_from (suc n) ps es))) ≤ times x (map f (value_names ps))
        → times x (map f (cons_option (bind.value_name p.name.name e) (filter_map handed_value (handed_from (suc n) ps es))))
        ≤ times x (map f (elim k as (λ k. List Name) [ kinds.Value ↦ p.name.name ∷ value_names ps | kinds.Ref extent ↦ value_names ps ]))
    go kinds.Value (arguments.Value place t) g r = omega (arith, r)
    go kinds.Value (arguments.Ref y extent) g r = omega (arith, r)
    go (kinds.Ref extent) (arguments.Value place t) g r = absurd (cc)
    go (kinds.Ref extent) (arguments.Ref y f) g r = r

-- what bind takes for the names of a process is written of it
names_counted : (f : Name → Name) (x : Name) (p : Process) (j : ℕ) (a : Archetype) → AllByRecursion Fits (handed_from 1 a.params p.arguments)
    → times x (map f (bind.names_with p a)) ≤ times x (map f (own_names j a))
names_counted f x p j a h =
    let values = filter_map handed_value (handed_from 1 a.params p.arguments) in
    let locals = map (λ d. d.name.name) a.locals in
    let ls = labels_from [] (archetype_uses j a) in
    let l1 = times-map_append f x values locals in
    let r1 = times-map_append f x (value_names a.params ++ variable_names a.locals) ls in
    let r2 = times-map_append f x (value_names a.params) (variable_names a.locals) in
    let v = values_counted f x 1 a.params p.arguments h in
    let w : times x (map f (variable_names a.locals)) ≡ times x (map f locals) = ap (λ ns. times x (map f ns)) (variables_are a.locals) in
    omega (arith, l1, r1, r2, v, w)

pub found_own : (x : Name) (j : ℕ) (as' : List Archetype) (a : Archetype) → archetype_named x as' ≡ Some a → (k : ℕ) × (find x (own_rows j as') ≡ Some (own_names k a))
found_own x j [] a h = absurd (cc)
found_own x j (b ∷ bs) a h = go (same_name x b.name.name) h (found_own x (suc j) bs a)
  where
    go : (c : Bool) → (if c then Some b else archetype_named x bs) ≡ Some a → (archetype_named x bs ≡ Some a → (k : ℕ) × (find x (own_rows (suc j) bs) ≡ Some (own_names k a)))
        → (k : ℕ) × ((if c then Some (own_names j b) else find x (own_rows (suc j) bs)) ≡ Some (own_names k a))
    go true e r = let same : b ≡ a = cc in (j, ap (λ d. Some (own_names j d)) same)
    go false e r = r e

pub own_written : (x : Name) (p : Process) (ns : List Name) → writes x (own_module_names p ns) ≡ times x (map (written p.name.name) ns)
own_written x p [] = refl
own_written x p (n ∷ ns) = ap (λ k. one_if (same_name x (written p.name.name n)) + k) (own_written x p ns)

process_written : (x : Name) (p : Process) (as' : List Archetype) → ArgumentsFit as' p
    → times x (map (written p.name.name) (bind.names_or_none p (archetype_named p.archetype.name as'))) ≤ writes x (own_module_names p (or_none (find p.archetype.name (own_rows 0 as'))))
process_written x p as' h = go (archetype_named p.archetype.name as') refl
  where
    go : (o : Option Archetype) → archetype_named p.archetype.name as' ≡ o
        → times x (map (written p.name.name) (bind.names_or_none p o)) ≤ writes x (own_module_names p (or_none (find p.archetype.name (own_rows 0 as'))))
    go None e = omega arith
    go (Some a) e =
        let r = found_own p.archetype.name 0 as' a e in
        let o = ap (λ z. writes x (own_module_names p (or_none z))) r.1 ∙ own_written x p (own_names r.0 a) in
        let c = names_counted (written p.name.name) x p r.0 a (h a e) in
        omega (arith, o, c)

-- ---- all processes

abbrev own_variables : List Archetype → List Process → List Name
own_variables as' ps = flat_map (λ p. map (written p.name.name) (bind.names_or_none p (archetype_named p.archetype.name as'))) ps

own_variables_written : (x : Name) (as' : List Archetype) (ps : List Process) → AllByRecursion (ArgumentsFit as') ps
    → times x (own_variables as' ps) ≤ writes x (process_module_names (own_rows 0 as') ps)
own_variables_written x as' [] h = omega arith
own_variables_written x as' (p ∷ ps) h =
    let own = own_module_names p (or_none (find p.archetype.name (own_rows 0 as'))) in
    let a = times-append x (map (written p.name.name) (bind.names_or_none p (archetype_named p.archetype.name as'))) (own_variables as' ps) in
    let b = writes-append x own (process_module_names (own_rows 0 as') ps) in
    let c = process_written x p as' h.0 in
    let d = own_variables_written x as' ps h.1 in
    omega (arith, a, b, c, d)

pub process_names_written : (x : Name) (as' : List Archetype) (ps : List Process) → times x (map (λ p. p.name.name) ps) ≤ writes x (process_module_names (own_rows 0 as') ps)
process_names_written x as' [] = omega arith
process_names_written x as' (p ∷ ps) =
    let own = own_module_names p (or_none (find p.archetype.name (own_rows 0 as'))) in
    omega (arith, writes-append x own (process_module_names (own_rows 0 as') ps), process_names_written x as' ps)

-- ---- the whole

abbrev pub all_module_names : Spec → List ModuleName
all_module_names s = module_names_with s (all_uses s)

pub once : (x : Name) (s : Spec) → name_clashes s ≡ [] → writes x (all_module_names s) ≤ 1
once x s h = let r = written_once x [] (all_module_names s) h (omega arith) in omega (arith, r)

-- what the parts of it write
pub parts_written : (x : Name) (s : Spec) → writes x (all_module_names s)
    ≡ writes x (fixed_module_names fixed_names) + (writes x (shared_module_names (shared_names s)) + writes x (bound_module_names (all_uses s)) + writes x (process_module_names (own_rows 0 s.archetypes) s.processes))
parts_written x s =
    let shared = shared_module_names (shared_names s) in
    let bound = bound_module_names (all_uses s) in
    let own = process_module_names (own_rows 0 s.archetypes) s.processes in
    let a = writes-append x (fixed_module_names fixed_names) (in_text_order (λ t. t.place) (shared ++ own ++ bound)) in
    let b = writes_in_order x (λ t. t.place) (shared ++ own ++ bound) in
    let c = writes-append x (shared ++ own) bound in
    let d = writes-append x shared own in
    omega (arith, a, b, c, d)

pub processes_once : (s : Spec) → name_clashes s ≡ [] → (x : Name) → times x (map (λ p. p.name.name) s.processes) ≤ 1
processes_once s h x = omega (arith, once x s h, parts_written x s, process_names_written x s.archetypes s.processes)

pub variables_once : (s : Spec) → name_clashes s ≡ [] → AllByRecursion (ArgumentsFit s.archetypes) s.processes → (x : Name) → times x (bind.variables_of s) ≤ 1
variables_once s h f x =
    let globals = map (λ (d : Declaration). d.name.name) s.globals in
    let a = times-append x (globals ++ (pc ∷ [])) (own_variables s.archetypes s.processes) in
    let b = times-append x globals (pc ∷ []) in
    omega (arith, a, b, once x s h, parts_written x s, globals_written x s, pc_written x, own_variables_written x s.archetypes s.processes f)
