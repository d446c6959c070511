-- Which expressions a written module has, and how high they are.
--
-- Source: this project's choice.
use Rattle.std.specs.Prelude.{◌≡◌, ◌≤◌, ◌<◌, ℕ, List, [], ◌∷◌, ◌++◌, map}
use Rattle.std.specs.List.{flat_map}
use Rattle.pgo_base.specs.Lists.{IsAmong}
use Rattle.pgo_base.specs.Tree.{Tree}
use Rattle.pgo_expr_read.specs.Heights.{height}
use Rattle.pgo_model.specs.Module.{Module, WrittenProcess, proc_set_of, process_body, terminating_body, next_body}
use Rattle.pgo_model.specs.Val.{Defined, Given, Means}

-- what definitions say; a value that is given is no expression
abbrev pub bodies : List Defined → List Tree
bodies [] = []
bodies (Given x v ∷ ds) = bodies ds
bodies (Means x ps e ∷ ds) = e ∷ bodies ds

-- the actions of a process's labels, and then its own
abbrev pub process_expressions : WrittenProcess → List Tree
process_expressions p = map (λ a. a.1) p.actions ++ (process_body p ∷ [])

-- the definitions, ProcSet, Init, the actions of each process, Terminating and Next; what stands within one of them is not among them
abbrev pub expressions_of : Module → List Tree
expressions_of m =
    bodies m.definitions ++ (proc_set_of m ∷ m.init ∷ []) ++ flat_map process_expressions m.processes
    ++ (terminating_body m ∷ next_body m ∷ [])

-- the module has an expression of this height
pub record HasHeight (m : Module) (k : ℕ) : Type 0 where
  pub expression : Tree
  pub among : IsAmong expression (expressions_of m)
  pub high : height expression ≡ k

-- it has one of this height, and none is higher
pub record IsGreatestHeight (m : Module) (k : ℕ) : Type 0 where
  pub some : HasHeight m k
  pub most : (e : Tree) → IsAmong e (expressions_of m) → height e ≤ k

-- it has an expression that is higher than k
pub record IsHigherThan (m : Module) (k : ℕ) : Type 0 where
  pub expression : Tree
  pub among : IsAmong expression (expressions_of m)
  pub higher : k < height expression
