-- When a module's names are identifiers and its expressions are well formed.
use Rattle.std.specs.Prelude.{◌≡◌, []}
use Rattle.std.specs.List.{AllByRecursion}
use Rattle.pgo_base.specs.Lookup.{Name}
use Rattle.pgo_base.specs.Tree.{Tree}
use Rattle.pgo_expr_write.specs.WellFormed.{IsWellFormed, IsName, AreNames}
use Rattle.pgo_model.specs.Module.{Module, WrittenProcess, proc_set_of, process_body, terminating_body, next_body}
use Rattle.pgo_model.specs.Val.{Defined, Given, Means}

abbrev pub DefinedFormed : Defined → Type 0
DefinedFormed (Given x v) = ⊥
DefinedFormed (Means x ps e) = IsName x × AreNames ps × IsWellFormed e

abbrev pub ActionFormed : Name × Tree → Type 0
ActionFormed a = IsName a.0 × IsWellFormed a.1

pub record WrittenFormed (p : WrittenProcess) : Type 0 where
  pub name : IsName p.name
  pub actions : AllByRecursion ActionFormed p.actions
  pub own : IsWellFormed (process_body p)

pub record ModuleFormed (m : Module) : Type 0 where
  pub name : IsName m.name
  pub constants : AreNames m.constants
  pub definitions : AllByRecursion DefinedFormed m.definitions
  pub variables : AreNames m.variables
  pub some_variable : m.variables ≡ [] → ⊥
  pub sets : IsWellFormed (proc_set_of m)
  pub init : IsWellFormed m.init
  pub processes : AllByRecursion WrittenFormed m.processes
  pub ending : IsWellFormed (terminating_body m)
  pub next : IsWellFormed (next_body m)
