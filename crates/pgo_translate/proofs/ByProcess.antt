-- The module of a specification in terms of the specification itself.
use Rattle.std.proofs.Common.{◌≡◌, false, List, [], ◌∷◌, ◌++◌, map, Option, Some, None, refl, ap, ◌∙◌, sym, inl, inr}
use Rattle.std.specs.Prelude.{if◌then◌else◌}
use Rattle.std.specs.List.{AllByRecursion, filter_map, flat_map, cons_option}
use Rattle.pgo_base.specs.Tree.{Tree, name, text, case_of, arms}
use Rattle.pgo_base.specs.Lookup.{Name, same_name}
use Rattle.pgo_model.specs.Module.{Module, WrittenProcess, all_of}
use Rattle.pgo_model.specs.Options.{on}
use Rattle.pgo_model.specs.Written.{pc, self_name, done, proc_set, written}
use Rattle.pgo_syntax.specs.Statement.{Statement, labeled}
use Rattle.pgo_syntax.specs.declared.archetype.Archetype.{Archetype}
use Rattle.pgo_syntax.specs.declared.binding.Origin.TheVariants.{Equals}
use Rattle.pgo_syntax.specs.declared.declaration.Declaration.{Declaration}
use Rattle.pgo_syntax.specs.declared.bound.Binding.{Binding}
use Rattle.pgo_syntax.specs.declared.macros.Macro.{Macro}
use Rattle.pgo_syntax.specs.declared.name.PlacedName.{PlacedName}
use Rattle.pgo_syntax.specs.declared.process.Argument.{Argument}
use Rattle.pgo_syntax.specs.declared.process.Argument.TheVariants as arguments
use Rattle.pgo_syntax.specs.declared.process.Process.{Process}
use Rattle.pgo_syntax.specs.declared.spec.Spec.{Spec}
use Rattle.pgo_bound.specs.Among.{IsAmong, all_at, nth_among}
use Rattle.pgo_bound.specs.BoundOf.{first_label_in}
use Rattle.pgo_bound.specs.Runs.{Handed, handed_from, archetype_named}
use Rattle.pgo_bound.specs.Sound.{WellNamed}
use Rattle.pgo_bound.specs.State.{variables_of, own_names}
use Rattle.pgo_bound.specs.StartNames.{map-append}
use Rattle.pgo_bound.specs.Values.{define_of}
use Rattle.pgo_sections.specs.Expansion.{Expansion}
use Rattle.pgo_sections.specs.Code.{Goto}
use Rattle.pgo_sections.specs.Expand.{expansion}
use Rattle.pgo_meaning.specs.Expansions.{expansions_of, process_bindings, process_expansions}
use Rattle.pgo_meaning.specs.Labels.{within_order}
use Rattle.pgo_meaning.specs.MacrosPlaced.{bodies, placed_among}
use Rattle.pgo_meaning.specs.Parameters.{places_of, setting_of}
use Rattle.pgo_pluscal.specs.PlusCalOf.{ids_tree, parameter_declaration, local_declaration, own_declarations, process_of, pluscal_of}
use Rattle.pgo_pluscal.proofs.OwnNames.{own_names_are}
use Rattle.pgo_translate.specs.Items.{action_body, equals}
use Rattle.pgo_translate.specs.ModuleOf as expanded
use Rattle.pgo_translate.specs.Premises.{StartsAtLabel}
use Rattle.pgo_translate.specs.ModuleOf.{declared, member, for_each_id, own_starts, global_starts, first_label, definitions_of}

abbrev pub global_names : Spec → List Name
global_names s = declared s.globals

-- a value parameter starts with its argument
abbrev pub argument_starts : Name → Tree → Name → Argument → Option Tree
argument_starts p ids x (arguments.Ref g e) = None
argument_starts p ids x (arguments.Value place e) = Some (own_starts ids (written p x) (Some (Equals e)))

abbrev pub starts_with : Process → Archetype → List Tree
starts_with p a =
    filter_map (λ h. argument_starts p.name.name (ids_tree p.ids) h.parameter.name.name h.argument) (handed_from 1 a.params p.arguments)
    ++ map (λ d. own_starts (ids_tree p.ids) (written p.name.name d.name.name) d.initial) a.locals

abbrev pub starts_or_none : Process → Option Archetype → List Tree
starts_or_none p None = []
starts_or_none p (Some a) = starts_with p a

-- the value parameters of a process, and then its locals
abbrev pub process_starts : Spec → Process → List Tree
process_starts s p = starts_or_none p (archetype_named p.archetype.name s.archetypes)

abbrev pub first_label_or : Process → Option Archetype → Name
first_label_or p None = done
first_label_or p (Some a) = first_label_in p.name.name a.body

abbrev pub first_arm : Spec → Process → Tree × Tree
first_arm s p =
    (member (name self_name) (ids_tree p.ids), text (first_label_or p (archetype_named p.archetype.name s.archetypes)))

abbrev pub places_start : Spec → Tree
places_start s = equals (name pc) (for_each_id (name proc_set) (case_of (arms (map (first_arm s) s.processes))))

abbrev pub start_items : Spec → List Tree
start_items s =
    map (λ d. global_starts d.name.name d.initial) s.globals ++ (places_start s ∷ []) ++ flat_map (process_starts s) s.processes

abbrev pub label_actions : Spec → List (Name × Expansion) → List (Name × Tree)
label_actions s ls = map (λ l. (l.0, action_body (variables_of s) (global_names s) l.0 l.1)) ls

abbrev pub written_process : Spec → Process → WrittenProcess
written_process s p = record { name = p.name.name; ids = ids_tree p.ids; actions = label_actions s (process_expansions s p) }

-- the module with another Init
abbrev pub module_by : Spec → Tree → Module
module_by s init = record {
  name = s.name.name;
  constants = map (λ c. c.name) s.constants;
  definitions = definitions_of s.definitions ++ definitions_of (define_of s.define);
  variables = variables_of s;
  init = init;
  processes = map (written_process s) s.processes;
}

-- the module with the Init that speaks of processes
abbrev pub own_module : Spec → Module
own_module s = module_by s (all_of (start_items s))

pub map_map : {A B C : Type 0} (f : A → B) (g : B → C) (xs : List A) → map g (map f xs) ≡ map (λ x. g (f x)) xs
map_map f g [] = refl
map_map f g (x ∷ xs) = ap (λ ys. g (f x) ∷ ys) (map_map f g xs)

flat_each : {A B C : Type 0} (f : A → B) (g : B → List C) (h : A → List C) (xs : List A) → ((x : A) → g (f x) ≡ h x) → flat_map g (map f xs) ≡ flat_map h xs
flat_each f g h [] e = refl
flat_each f g h (x ∷ xs) e = λ i. e x i ++ flat_each f g h xs e i

variables_are : (s : Spec) → expanded.variables_in (pluscal_of s) ≡ variables_of s
variables_are s =
    ap (λ xs. (global_names s ++ (pc ∷ [])) ++ xs)
    (flat_each (process_of s) (λ q. declared q.variables) (λ p. map (written p.name.name) (own_names s p)) s.processes (own_names_are s))

-- with its own Init the module is that of the expanded specification
pub module_is : (s : Spec) → module_by s (all_of (expanded.start_items (pluscal_of s))) ≡ expanded.module_of s
module_is s =
    λ i. record {
      name = s.name.name;
      constants = map (λ c. c.name) s.constants;
      definitions = definitions_of s.definitions ++ definitions_of (define_of s.define);
      variables = sym (variables_are s) i;
      init = all_of (expanded.start_items (pluscal_of s));
      processes = processes_are i;
    }
  where
    processes_are : map (written_process s) s.processes ≡ map (expanded.written_process (expanded.variables_in (pluscal_of s)) (global_names s)) (map (process_of s) s.processes)
    processes_are =
        sym (map_map (process_of s) (expanded.written_process (variables_of s) (global_names s)) s.processes)
        ∙ ap (λ vs. map (expanded.written_process vs (global_names s)) (map (process_of s) s.processes)) (sym (variables_are s))

-- ---- its Init

module _ (ids : Tree) (p : Name) where
  abbrev own : Declaration → Tree
  own d = own_starts ids d.name.name d.initial

  parameters_start : (hs : List Handed) → map own (filter_map (λ h. parameter_declaration p h.parameter.name h.argument) hs) ≡ filter_map (λ h. argument_starts p ids h.parameter.name.name h.argument) hs
  parameters_start [] = refl
  parameters_start (h ∷ hs) = go h.argument (parameters_start hs)
    where
      go : (a : Argument) → map own (filter_map (λ h. parameter_declaration p h.parameter.name h.argument) hs) ≡ filter_map (λ h. argument_starts p ids h.parameter.name.name h.argument) hs
          → map own (cons_option (parameter_declaration p h.parameter.name a) (filter_map (λ h. parameter_declaration p h.parameter.name h.argument) hs))
          ≡ cons_option (argument_starts p ids h.parameter.name.name a) (filter_map (λ h. argument_starts p ids h.parameter.name.name h.argument) hs)
      go (arguments.Ref g e) r = r
      go (arguments.Value place e) r = ap (λ ts. own_starts ids (written p h.parameter.name.name) (Some (Equals e)) ∷ ts) r

own_start_with : (p : Process) (o : Option Archetype) → map (λ d. own_starts (ids_tree p.ids) d.name.name d.initial) (on [] o (own_declarations p)) ≡ starts_or_none p o
own_start_with p None = refl
own_start_with p (Some a) =
    let hs = handed_from 1 a.params p.arguments in
    map-append (own (ids_tree p.ids) p.name.name) (filter_map (λ h. parameter_declaration p.name.name h.parameter.name h.argument) hs) (map (local_declaration p.name.name) a.locals)
    ∙ (λ i. parameters_start (ids_tree p.ids) p.name.name hs i ++ map_map (local_declaration p.name.name) (own (ids_tree p.ids) p.name.name) a.locals i)

process_start_is : (s : Spec) (p : Process) → expanded.process_starts (process_of s p) ≡ process_starts s p
process_start_is s p = own_start_with p (archetype_named p.archetype.name s.archetypes)

own_label : (p : Process) (ms : List Macro) (bs : List Binding) (vs : List Name) (a : Archetype) (l : PlacedName) (t : Statement) (rest : List (Option PlacedName × Statement)) → a.body ≡ (Some l, t) ∷ rest → same_name l.name done ≡ false
    → first_label (expansions_of vs ms p.name.name a bs) ≡ first_label_in p.name.name a.body
own_label p ms bs vs a l t rest e h =
    ap (λ b. first_label (map (λ c. (c.0, expansion vs (places_of p.name.name a bs) c.1)) (within_order (setting_of p.name.name a bs) [] (placed_among (bodies ms) (labeled b)) (Goto done)))) e
    ∙ ap (λ b. if b then done else written p.name.name l.name) h
    ∙ sym (ap (first_label_in p.name.name) e)

first_label_is : (s : Spec) (p : Process) → ((a : Archetype) → archetype_named p.archetype.name s.archetypes ≡ Some a → (l : PlacedName) × (t : Statement) × (rest : List (Option PlacedName × Statement)) × (a.body ≡ (Some l, t) ∷ rest)) → StartsAtLabel s p
    → first_label (process_expansions s p) ≡ first_label_or p (archetype_named p.archetype.name s.archetypes)
first_label_is s p f h = go (archetype_named p.archetype.name s.archetypes) refl
  where
    go : (o : Option Archetype) → archetype_named p.archetype.name s.archetypes ≡ o
        → first_label (on [] o (λ a. expansions_of (variables_of s) s.macros p.name.name a (process_bindings s p a))) ≡ first_label_or p o
    go None e = refl
    go (Some a) e = let k = f a e in own_label p s.macros (process_bindings s p a) (variables_of s) a k.0 k.1 k.2 k.3 (h a k.0 k.1 k.2 e k.3)

arms_are : (s : Spec) → WellNamed s → AllByRecursion (StartsAtLabel s) s.processes → map expanded.first_arm (map (process_of s) s.processes) ≡ map (first_arm s) s.processes
arms_are s w h = each s.processes (λ p m. m)
  where
    each : (ps : List Process) → ((p : Process) → IsAmong p ps → IsAmong p s.processes) → map expanded.first_arm (map (process_of s) ps) ≡ map (first_arm s) ps
    each [] f = refl
    each (p ∷ ps) f =
        let m = f p (inl refl) in
        let n = nth_among p s.processes m in
        let e = first_label_is s p (λ a k. w.labels n.0 p a n.1 k) (all_at (StartsAtLabel s) p s.processes h m) in
        λ i. (member (name self_name) (ids_tree p.ids), text (e i)) ∷ each ps (λ q k. f q (inr k)) i

-- its items are one for each variable of the specification
pub init_is : (s : Spec) → WellNamed s → AllByRecursion (StartsAtLabel s) s.processes → expanded.start_items (pluscal_of s) ≡ start_items s
init_is s w h =
    λ i. map (λ d. global_starts d.name.name d.initial) s.globals
    ++ (equals (name pc) (for_each_id (name proc_set) (case_of (arms (arms_are s w h i)))) ∷ [])
    ++ flat_each (process_of s) expanded.process_starts (process_starts s) s.processes (process_start_is s) i
