-- The module of a specification is well formed, where its text is, no set that it names is `Nat`, `Int` or `STRING`, and its expansions
-- are small.
use Rattle.std.proofs.Common.{◌≡◌, ◌≤◌, inr, List, [], ◌∷◌, ◌++◌, map, Option, Some, None, refl, subst, arith}
use Rattle.std.specs.List.{AllByRecursion, filter_map, flat_map, cons_option}
use Rattle.pgo_base.specs.Lookup.{Name}
use Rattle.pgo_base.specs.Tree.{Tree, name, case_of, arms}
use Rattle.pgo_model.specs.Module.{process_step, self_call}
use Rattle.pgo_model.specs.Options.{on}
use Rattle.pgo_model.specs.Written.{pc, done, proc_set, terminating, default_init_value, written}
use Rattle.pgo_expr_write.specs.WellFormed.{IsWellFormed, IsName, AreNames, AreSomeNames, AreAllArms, AreArms}
use Rattle.pgo_syntax.specs.declared.archetype.Archetype.{Archetype}
use Rattle.pgo_syntax.specs.declared.binding.Origin.{Origin}
use Rattle.pgo_syntax.specs.declared.binding.Origin.TheVariants.{Equals, In}
use Rattle.pgo_syntax.specs.declared.declaration.Declaration.{Declaration}
use Rattle.pgo_syntax.specs.declared.declaration.Definition.{Definition}
use Rattle.pgo_syntax.specs.declared.name.PlacedName.{PlacedName}
use Rattle.pgo_syntax.specs.declared.process.Argument.{Argument}
use Rattle.pgo_syntax.specs.declared.process.Argument.TheVariants as arguments
use Rattle.pgo_syntax.specs.declared.process.Process.{Process}
use Rattle.pgo_syntax.specs.declared.spec.Spec.{Spec}
use Rattle.pgo_bound.specs.Runs.{Handed, handed_from, archetype_named}
use Rattle.pgo_bound.specs.State.{variables_of, value_name, names_or_none, own_names}
use Rattle.pgo_bound.specs.Values.{define_of}
use Rattle.pgo_sections.specs.Expansion.{Expansion}
use Rattle.pgo_sections.specs.Nodes.{nodes}
use Rattle.pgo_meaning.specs.Expansions.{process_expansions}
use Rattle.pgo_meaning.specs.LabelSections.{AreUnlabelled}
use Rattle.pgo_pluscal.specs.PlusCalOf.{ids_tree, parameter_declaration, local_declaration, own_declarations, process_of, pluscal_of}
use Rattle.pgo_translate.specs.ModuleOf.{module_of, definitions_of, global_starts, own_starts, for_each_id, process_starts, first_label, first_arm, places_start, start_items}
use Rattle.pgo_translate.proofs.ByProcess.{module_is, written_process, label_actions, global_names}
use Rattle.pgo_agrees.proofs.EachToken.{all_joined}
use Rattle.pgo_written.specs.FormedCode.{IsShort, IsText}
use Rattle.pgo_written.specs.FormedModule.{DefinedFormed, ActionFormed, WrittenFormed, ModuleFormed}
use Rattle.pgo_written.specs.FormedSpec.{NameShort, DefinitionFormed, IfStartFormed, DeclarationFormed, ArchetypeFormed, ArgumentFormed, ProcessFormed, SpecFormed}
use Rattle.pgo_written.proofs.FormedItems.{AllWell, all_well, any_well, union_well, pc_is_name, stands_well, action_well}
use Rattle.pgo_written.proofs.FormedProcesses.{AllYield, LabelExpanded, HandedFormed, handed_formed, archetype_formed, process_formed}
use Rattle.pgo_written.proofs.FormedTrees.{well_formed, range_well}
use Rattle.pgo_written.proofs.WrittenNames.{short_name, base_name, written_base, self_is_name, name_text}

-- ---- names

names_append : (xs ys : List Name) → AreNames xs → AreNames ys → AreNames (xs ++ ys)
names_append [] ys h g = g
names_append (x ∷ xs) ys h g = (h.0, names_append xs ys h.1 g)

placed_names : (xs : List PlacedName) → AllByRecursion NameShort xs → AreNames (map (λ x. x.name) xs)
placed_names [] h = tt
placed_names (x ∷ xs) h = (short_name x.name h.0, placed_names xs h.1)

declared_names : (ds : List Declaration) → AllByRecursion DeclarationFormed ds → AreNames (map (λ d. d.name.name) ds)
declared_names [] h = tt
declared_names (d ∷ ds) h = (short_name d.name.name h.0.0, declared_names ds h.1)

default_is_name : IsName default_init_value
default_is_name = (refl, omega arith)

set_is_name : IsName proc_set
set_is_name = (refl, omega arith)

terminating_is_name : IsName terminating
terminating_is_name = (refl, omega arith)

done_text : IsText done
done_text = refl

-- ---- definitions

definitions_formed : (ds : List Definition) → AllByRecursion DefinitionFormed ds → AllByRecursion DefinedFormed (definitions_of ds)
definitions_formed [] h = tt
definitions_formed (d ∷ ds) h =
    ((short_name d.name.name h.0.0, placed_names d.params h.0.1, well_formed d.body h.0.2), definitions_formed ds h.1)

-- ---- starts

-- no set that is named is endless
abbrev pub StartWell : Option Origin → Type 0
StartWell None = Unit {0}
StartWell (Some (Equals e)) = IsWellFormed e
StartWell (Some (In e)) = IsWellFormed e

abbrev DeclaredWell : Declaration → Type 0
DeclaredWell d = IsName d.name.name × StartWell d.initial

for_each_well : (ids e : Tree) → IsWellFormed ids → IsWellFormed e → IsWellFormed (for_each_id ids e)
for_each_well ids e h g = (((self_is_name, tt), inr h, tt), g)

global_well : (x : Name) (o : Option Origin) → IsName x → IfStartFormed o → IsWellFormed (global_starts x o)
global_well x None h g = (h, inr default_is_name)
global_well x (Some (Equals e)) h g = (h, inr (well_formed e g))
global_well x (Some (In e)) h g = (h, range_well e g)

own_well : (ids : Tree) (x : Name) (o : Option Origin) → IsWellFormed ids → IsName x → StartWell o → IsWellFormed (own_starts ids x o)
own_well ids x None i h g = (h, inr (for_each_well ids (name default_init_value) i default_is_name))
own_well ids x (Some (Equals e)) i h g = (h, inr (for_each_well ids e i g))
own_well ids x (Some (In e)) i h g = (h, inr (i, g))

globals_well : (ds : List Declaration) → AllByRecursion DeclarationFormed ds → AllWell (map (λ d. global_starts d.name.name d.initial) ds)
globals_well [] h = tt
globals_well (d ∷ ds) h = (global_well d.name.name d.initial (short_name d.name.name h.0.0) h.0.1, globals_well ds h.1)

owns_well : (ids : Tree) → IsWellFormed ids → (ds : List Declaration) → AllByRecursion DeclaredWell ds → AllWell (map (λ d. own_starts ids d.name.name d.initial) ds)
owns_well ids i [] h = tt
owns_well ids i (d ∷ ds) h = (own_well ids d.name.name d.initial i h.0.0 h.0.1, owns_well ids i ds h.1)

-- value parameters and locals of a process
module _ (p : Name) (short : IsShort p) where
  parameters_well : (hs : List Handed) → AllByRecursion HandedFormed hs → AllByRecursion DeclaredWell (filter_map (λ h. parameter_declaration p h.parameter.name h.argument) hs)
  parameters_well [] g = tt
  parameters_well (h ∷ hs) g = go h.argument g.0.1 (parameters_well hs g.1)
    where
      go : (a : Argument) → ArgumentFormed a → AllByRecursion DeclaredWell (filter_map (λ h. parameter_declaration p h.parameter.name h.argument) hs)
          → AllByRecursion DeclaredWell (cons_option (parameter_declaration p h.parameter.name a) (filter_map (λ h. parameter_declaration p h.parameter.name h.argument) hs))
      go (arguments.Ref x e) k more = more
      go (arguments.Value place e) k more = ((base_name (written p h.parameter.name.name) (written_base p h.parameter.name.name short g.0.0), well_formed e k), more)

  locals_well : (ds : List Declaration) → AllByRecursion DeclarationFormed ds → AllByRecursion (λ d. StartWell d.initial) ds → AllByRecursion DeclaredWell (map (local_declaration p) ds)
  locals_well [] h g = tt
  locals_well (d ∷ ds) h g = ((base_name (written p d.name.name) (written_base p d.name.name short h.0.0), g.0), locals_well ds h.1 g.1)

  parameter_names_short : (hs : List Handed) → AllByRecursion HandedFormed hs → AllByRecursion IsShort (filter_map (λ h. value_name h.parameter.name.name h.argument) hs)
  parameter_names_short [] g = tt
  parameter_names_short (h ∷ hs) g = go h.argument (parameter_names_short hs g.1)
    where
      go : (a : Argument) → AllByRecursion IsShort (filter_map (λ h. value_name h.parameter.name.name h.argument) hs)
          → AllByRecursion IsShort (cons_option (value_name h.parameter.name.name a) (filter_map (λ h. value_name h.parameter.name.name h.argument) hs))
      go (arguments.Ref x e) more = more
      go (arguments.Value place e) more = (g.0.0, more)

  local_names_short : (ds : List Declaration) → AllByRecursion DeclarationFormed ds → AllByRecursion IsShort (map (λ d. d.name.name) ds)
  local_names_short [] h = tt
  local_names_short (d ∷ ds) h = (h.0.0, local_names_short ds h.1)

  written_names : (xs : List Name) → AllByRecursion IsShort xs → AreNames (map (written p) xs)
  written_names [] h = tt
  written_names (x ∷ xs) h = (base_name (written p x) (written_base p x short h.0), written_names xs h.1)

-- what is asked of a process besides
pub record ProcessFits (s : Spec) (p : Process) : Type 0 where
  pub ids : IsWellFormed (ids_tree p.ids)
  pub locals : (a : Archetype) → archetype_named p.archetype.name s.archetypes ≡ Some a → AllByRecursion (λ d. StartWell d.initial) a.locals
  pub small : AllByRecursion (λ c. nodes c.1 ≤ 1048576) (process_expansions s p)

module _ (s : Spec) (f : SpecFormed s) (y : AllYield s.mappings) (u : AreUnlabelled s.macros) where
  pub formed_archetype : (x : Name) (a : Archetype) → archetype_named x s.archetypes ≡ Some a → ArchetypeFormed a
  formed_archetype x a e = archetype_formed s f.mappings y x s.archetypes f.archetypes a e

  own_declared : (p : Process) → ProcessFormed p → ProcessFits s p → AllByRecursion DeclaredWell (on [] (archetype_named p.archetype.name s.archetypes) (own_declarations p))
  own_declared p g k = go (archetype_named p.archetype.name s.archetypes) refl
    where
      go : (o : Option Archetype) → archetype_named p.archetype.name s.archetypes ≡ o → AllByRecursion DeclaredWell (on [] o (own_declarations p))
      go None e = tt
      go (Some a) e =
          let h = formed_archetype p.archetype.name a e in
          all_joined DeclaredWell (filter_map (λ h. parameter_declaration p.name.name h.parameter.name h.argument) (handed_from 1 a.params p.arguments)) (map (local_declaration p.name.name) a.locals) (parameters_well p.name.name g.0 (handed_from 1 a.params p.arguments) (handed_formed 1 a.params p.arguments h.0 g.2)) (locals_well p.name.name g.0 a.locals h.1 (k.locals a e))

  own_short : (p : Process) → ProcessFormed p → AllByRecursion IsShort (own_names s p)
  own_short p g = go (archetype_named p.archetype.name s.archetypes) refl
    where
      go : (o : Option Archetype) → archetype_named p.archetype.name s.archetypes ≡ o → AllByRecursion IsShort (names_or_none p o)
      go None e = tt
      go (Some a) e =
          let h = formed_archetype p.archetype.name a e in
          all_joined IsShort (filter_map (λ h. value_name h.parameter.name.name h.argument) (handed_from 1 a.params p.arguments)) (map (λ d. d.name.name) a.locals) (parameter_names_short p.name.name g.0 (handed_from 1 a.params p.arguments) (handed_formed 1 a.params p.arguments h.0 g.2)) (local_names_short p.name.name g.0 a.locals h.1)

  -- ---- variables

  own_variables : (ps : List Process) → AllByRecursion ProcessFormed ps → AreNames (flat_map (λ p. map (written p.name.name) (own_names s p)) ps)
  own_variables [] g = tt
  own_variables (p ∷ ps) g =
      names_append (map (written p.name.name) (own_names s p)) (flat_map (λ p. map (written p.name.name) (own_names s p)) ps) (written_names p.name.name g.0.0 (own_names s p) (own_short p g.0)) (own_variables ps g.1)

  variables_named : AreNames (variables_of s)
  variables_named =
      names_append (map (λ d. d.name.name) s.globals ++ (pc ∷ [])) (flat_map (λ p. map (written p.name.name) (own_names s p)) s.processes)
      (names_append (map (λ d. d.name.name) s.globals) (pc ∷ []) (declared_names s.globals f.globals) (pc_is_name, tt)) (own_variables s.processes f.processes)

  -- `pc` is one
  some_behind : (xs ys zs : List Name) (x : Name) → (xs ++ (x ∷ [])) ++ zs ≡ [] → ⊥
  some_behind [] ys zs x h = cc
  some_behind (z ∷ xs) ys zs x h = cc

  unchanged_names : (xs : List Name) → AreNames xs → (xs ≡ [] → ⊥) → AreSomeNames xs
  unchanged_names [] h k = absurd (k refl)
  unchanged_names (x ∷ xs) h k = h

  some_variable : variables_of s ≡ [] → ⊥
  some_variable h = some_behind (map (λ d. d.name.name) s.globals) [] (flat_map (λ p. map (written p.name.name) (own_names s p)) s.processes) pc h

  -- ---- processes

  expanded : (p : Process) → ProcessFormed p → ProcessFits s p → AllByRecursion LabelExpanded (process_expansions s p)
  expanded p g k = process_formed s f y u p g k.small

  actions_formed : (ls : List (Name × Expansion)) → AllByRecursion LabelExpanded ls → AllByRecursion ActionFormed (label_actions s ls)
  actions_formed [] h = tt
  actions_formed (l ∷ ls) h = ((h.0.0, action_well (variables_of s) (global_names s) variables_named l.0 l.1 (name_text l.0 h.0.0) h.0.1), actions_formed ls h.1)

  calls_well : (ls : List (Name × Expansion)) → AllByRecursion LabelExpanded ls → AllWell (map (λ a. self_call a.0) (label_actions s ls))
  calls_well [] h = tt
  calls_well (l ∷ ls) h = ((h.0.0, (self_is_name, tt)), calls_well ls h.1)

  written_formed : (p : Process) → ProcessFormed p → ProcessFits s p → WrittenFormed (written_process s p)
  written_formed p g k = record {
    name = short_name p.name.name g.0;
    actions = actions_formed (process_expansions s p) (expanded p g k);
    own = any_well (map (λ a. self_call a.0) (label_actions s (process_expansions s p))) (calls_well (process_expansions s p) (expanded p g k));
  }

  all_written : (ps : List Process) → AllByRecursion ProcessFormed ps → AllByRecursion (ProcessFits s) ps → AllByRecursion WrittenFormed (map (written_process s) ps)
  all_written [] g k = tt
  all_written (p ∷ ps) g k = (written_formed p g.0 k.0, all_written ps g.1 k.1)

  sets_well : (ps : List Process) → AllByRecursion (ProcessFits s) ps → AllWell (map (λ q. q.ids) (map (written_process s) ps))
  sets_well [] k = tt
  sets_well (p ∷ ps) k = (k.0.ids, sets_well ps k.1)

  steps_well : (ps : List Process) → AllByRecursion ProcessFormed ps → AllByRecursion (ProcessFits s) ps → AllWell (map process_step (map (written_process s) ps))
  steps_well [] g k = tt
  steps_well (p ∷ ps) g k = ((((self_is_name, tt), inr k.0.ids, tt), (short_name p.name.name g.0.0, (self_is_name, tt))), steps_well ps g.1 k.1)

  -- ---- Init

  process_starts_well : (ps : List Process) → AllByRecursion ProcessFormed ps → AllByRecursion (ProcessFits s) ps → AllWell (flat_map process_starts (map (process_of s) ps))
  process_starts_well [] g k = tt
  process_starts_well (p ∷ ps) g k =
      all_joined IsWellFormed (process_starts (process_of s p)) (flat_map process_starts (map (process_of s) ps)) (owns_well (ids_tree p.ids) k.0.ids (on [] (archetype_named p.archetype.name s.archetypes) (own_declarations p)) (own_declared p g.0 k.0)) (process_starts_well ps g.1 k.1)

  first_text : (ls : List (Name × Expansion)) → AllByRecursion LabelExpanded ls → IsText (first_label ls)
  first_text [] h = done_text
  first_text (l ∷ ls) h = name_text l.0 h.0.0

  arms_well : (ps : List Process) → AllByRecursion ProcessFormed ps → AllByRecursion (ProcessFits s) ps → AreAllArms (arms (map first_arm (map (process_of s) ps)))
  arms_well [] g k = tt
  arms_well (p ∷ ps) g k = ((self_is_name, inr k.0.ids), first_text (process_expansions s p) (expanded p g.0 k.0), arms_well ps g.1 k.1)

  some_arms : (ps : List Process) → (ps ≡ [] → ⊥) → AllByRecursion ProcessFormed ps → AllByRecursion (ProcessFits s) ps → AreArms (arms (map first_arm (map (process_of s) ps)))
  some_arms [] n g k = absurd (n refl)
  some_arms (p ∷ ps) n g k = ((self_is_name, inr k.0.ids), first_text (process_expansions s p) (expanded p g.0 k.0), arms_well ps g.1 k.1)

  module _ (k : AllByRecursion (ProcessFits s) s.processes) where
    init_well : AllWell (start_items (pluscal_of s))
    init_well =
        all_joined IsWellFormed (map (λ d. global_starts d.name.name d.initial) s.globals ++ (places_start (map (process_of s) s.processes) ∷ [])) (flat_map process_starts (map (process_of s) s.processes))
        (all_joined IsWellFormed (map (λ d. global_starts d.name.name d.initial) s.globals) (places_start (map (process_of s) s.processes) ∷ []) (globals_well s.globals f.globals)
        ((pc_is_name, inr (for_each_well (name proc_set) (case_of (arms (map first_arm (map (process_of s) s.processes)))) set_is_name (some_arms s.processes f.some f.processes k))), tt))
        (process_starts_well s.processes f.processes k)

    -- ---- the module

    pub module_formed : ModuleFormed (module_of s)
    module_formed = subst ModuleFormed (module_is s) (record {
      name = short_name s.name.name f.name;
      constants = placed_names s.constants f.constants;
      definitions = all_joined DefinedFormed (definitions_of s.definitions) (definitions_of (define_of s.define)) (definitions_formed s.definitions f.definitions) (definitions_formed (define_of s.define) f.define);
      variables = variables_named;
      some_variable = some_variable;
      sets = union_well (map (λ q. q.ids) (map (written_process s) s.processes)) (sets_well s.processes k);
      init = all_well (start_items (pluscal_of s)) init_well;
      processes = all_written s.processes f.processes k;
      ending = ((((self_is_name, tt), inr set_is_name, tt), stands_well done done_text), inr (unchanged_names (variables_of s) variables_named some_variable));
      next = any_well (map process_step (map (written_process s) s.processes) ++ (name terminating ∷ [])) (all_joined IsWellFormed (map process_step (map (written_process s) s.processes)) (name terminating ∷ []) (steps_well s.processes f.processes k) (terminating_is_name, tt));
    })
