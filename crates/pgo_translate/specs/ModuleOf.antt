-- The module that an expanded specification means. Source: the translation of A PlusCal User's Manual; that values of a
-- section are bound to made names is this project's choice.
use Rattle.std.specs.Prelude.{List, [], ◌∷◌, ◌++◌, map, Option, Some, None, option_map}
use Rattle.std.specs.List.{filter_map, flat_map}
use Rattle.pgo_base.specs.declared.expr.Infix.TheVariants as infixs
use Rattle.pgo_base.specs.Data.{Data}
use Rattle.pgo_base.specs.Tree.{Tree, name, text, binary, fun_of, fun_set, case_of, bound, arms}
use Rattle.pgo_base.specs.Lookup.{Name}
use Rattle.pgo_model.specs.ModuleView.{defined_view}
use Rattle.pgo_model.specs.Module.{Module, WrittenProcess, all_of}
use Rattle.pgo_model.specs.Val.{Defined}
use Rattle.pgo_model.specs.Written.{pc, self_name, done, proc_set, default_init_value}
use Rattle.pgo_syntax.specs.declared.binding.Origin.{Origin}
use Rattle.pgo_syntax.specs.declared.binding.Origin.TheVariants.{Equals, In}
use Rattle.pgo_syntax.specs.declared.declaration.Declaration.{Declaration}
use Rattle.pgo_syntax.specs.declared.declaration.Definition.{Definition}
use Rattle.pgo_syntax.specs.declared.name.PlacedName.{PlacedName}
use Rattle.pgo_syntax.specs.declared.spec.Spec.{Spec}
use Rattle.pgo_bound.specs.Values.{meant, define_of, given_value}
use Rattle.pgo_sections.specs.Expansion.{Expansion}
use Rattle.pgo_pluscal.specs.declared.pluscal.ExpandedProcess.{ExpandedProcess}
use Rattle.pgo_pluscal.specs.declared.pluscal.PlusCal.{PlusCal}
use Rattle.pgo_pluscal.specs.PlusCalOf.{pluscal_of}
use Rattle.pgo_translate.specs.Items.{action_body, equals}

abbrev pub declared : List Declaration → List Name
declared ds = map (λ d. d.name.name) ds

-- the globals, `pc`, and process by process its own variables
abbrev pub variables_in : PlusCal → List Name
variables_in p = declared p.globals ++ (pc ∷ []) ++ flat_map (λ q. declared q.variables) p.processes

abbrev pub member : Tree → Tree → Tree
member a b = binary infixs.In a b

-- ---- Init

-- x = e, x \in e, and x = defaultInitValue where it has no initial value
abbrev pub global_starts : Name → Option Origin → Tree
global_starts x None = equals (name x) (name default_init_value)
global_starts x (Some (Equals e)) = equals (name x) e
global_starts x (Some (In e)) = member (name x) e

-- [self \in ids |-> e]
abbrev pub for_each_id : Tree → Tree → Tree
for_each_id ids e = fun_of (bound ((self_name ∷ [], ids) ∷ [])) e

-- x = [self \in ids |-> e], x \in [ids -> e]
abbrev pub own_starts : Tree → Name → Option Origin → Tree
own_starts ids x None = equals (name x) (for_each_id ids (name default_init_value))
own_starts ids x (Some (Equals e)) = equals (name x) (for_each_id ids e)
own_starts ids x (Some (In e)) = member (name x) (fun_set ids e)

abbrev pub process_starts : ExpandedProcess → List Tree
process_starts q = map (λ d. own_starts q.ids d.name.name d.initial) q.variables

-- where a process starts: at the first of its labels
abbrev pub first_label : List (Name × Expansion) → Name
first_label [] = done
first_label (l ∷ ls) = l.0

-- (self \in ids) -> "P_first"
abbrev pub first_arm : ExpandedProcess → Tree × Tree
first_arm q = (member (name self_name) q.ids, text (first_label q.trees))

-- pc = [self \in ProcSet |-> CASE (self \in ids) -> "P_first" [] ..]
abbrev pub places_start : List ExpandedProcess → Tree
places_start qs = equals (name pc) (for_each_id (name proc_set) (case_of (arms (map first_arm qs))))

-- one item for each variable, in the order of the variables
abbrev pub start_items : PlusCal → List Tree
start_items p =
    map (λ d. global_starts d.name.name d.initial) p.globals ++ (places_start p.processes ∷ []) ++ flat_map process_starts p.processes

-- ---- the module

abbrev pub label_actions : (variables globals : List Name) → List (Name × Expansion) → List (Name × Tree)
label_actions vs gs ls = map (λ l. (l.0, action_body vs gs l.0 l.1)) ls

abbrev pub written_process : (variables globals : List Name) → ExpandedProcess → WrittenProcess
written_process vs gs q = record { name = q.name; ids = q.ids; actions = label_actions vs gs q.trees }

abbrev pub definitions_of : List Definition → List Defined
definitions_of ds = map (λ d. defined_view (meant d)) ds

-- The definitions of `define` come behind those before the algorithm.
abbrev pub module_with : PlusCal → Module
module_with p = record {
  name = p.header.name;
  constants = map (λ c. c.name) p.header.constants;
  definitions = definitions_of p.header.definitions ++ definitions_of (define_of p.define);
  variables = variables_in p;
  init = all_of (start_items p);
  processes = map (written_process (variables_in p) (declared p.globals)) p.processes;
}

abbrev pub module_of : Spec → Module
module_of s = module_with (pluscal_of s)

-- ---- its constants

-- a declared constant with the value that it is given
abbrev pub named_constant : List (Name × Data) → PlacedName → Option (Name × Data)
named_constant consts c = option_map (λ v. (c.name, v)) (given_value consts c.name)

-- the constants of a module with their values, in the order of declaration
abbrev pub constants_with : Spec → List (Name × Data) → List (Name × Data)
constants_with s consts = filter_map (named_constant consts) s.constants
