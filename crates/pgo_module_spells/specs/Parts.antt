-- A written module as its lines have it: two lists of names, and two rows of definitions.
use Rattle.std.specs.Prelude.{◌≡◌, List, [], ◌∷◌, ◌++◌, map, codes}
use Rattle.std.specs.List.{AllByRecursion}
use Rattle.pgo_base.specs.Lookup.{Name}
use Rattle.pgo_base.specs.Tree.{Tree, name, tuple, trees}
use Rattle.pgo_model.specs.Module.{Module, WrittenProcess, proc_set_of, process_definitions, terminating_body, next_body}
use Rattle.pgo_model.specs.Val.{Defined, Means}
use Rattle.pgo_model.specs.Written.{default_init_value, proc_set, terminating, written}

pub record Parts : Type 0 where
  pub name : Name
  -- behind CONSTANTS
  pub constants : List Name
  pub definitions : List Defined
  -- behind VARIABLES
  pub variables : List Name
  -- from `vars` to Next
  pub further : List Defined

-- <<x, y>>
abbrev pub tuple_of : List Name → Tree
tuple_of xs = tuple (trees (map name xs))

-- `vars`, ProcSet, Init, each process's label actions and its own definition, Terminating and Next
abbrev pub further_of : Module → List Defined
further_of m =
    Means (codes "vars") [] (tuple_of m.variables) ∷ Means proc_set [] (proc_set_of m) ∷ Means (codes "Init") [] m.init
    ∷ (process_definitions m.processes ++ (Means terminating [] (terminating_body m) ∷ Means (codes "Next") [] (next_body m) ∷ []))

abbrev pub parts_of : Module → Parts
parts_of m = record {
  name = m.name;
  constants = m.constants ++ (default_init_value ∷ []);
  definitions = m.definitions;
  variables = m.variables;
  further = further_of m;
}

-- ---- processes and their label actions

-- an action's name begins with the process's name and `_`
abbrev pub IsActionOf : Name → Name × Tree → Type 0
IsActionOf p a = (l : Name) × (a.0 ≡ written p l)

-- a process has one label action or more
pub record HasActions (p : WrittenProcess) : Type 0 where
  pub some : p.actions ≡ [] → ⊥
  pub named : AllByRecursion (IsActionOf p.name) p.actions

-- a module has one process or more, and each has its label actions
pub record HasProcesses (m : Module) : Type 0 where
  pub some : m.processes ≡ [] → ⊥
  pub each : AllByRecursion HasActions m.processes
