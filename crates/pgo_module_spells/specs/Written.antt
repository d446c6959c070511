-- Which modules have a text of their own. What a text spells has one; and the canonical text of each that is no longer than a text may have
-- tokens spells it.
use Rattle.std.specs.Prelude.{◌≡◌, ◌≤◌, []}
use Rattle.std.specs.List.{AllByRecursion}
use Rattle.pgo_base.specs.Lookup.{Name}
use Rattle.pgo_base.specs.Tree.{Tree}
use Rattle.pgo_model.specs.Module.{Module, WrittenProcess, proc_set_of, process_body, terminating_body, next_body}
use Rattle.pgo_model.specs.Val.{Defined, Given, Means}
use Rattle.pgo_expr_read.specs.Heights.{height}
use Rattle.pgo_expr_write.specs.WellFormed.{IsWellFormed, IsName, AreNames}
use Rattle.pgo_module_spells.specs.Grammar.{most_height}
use Rattle.pgo_module_spells.specs.Parts.{HasProcesses}

pub record IsWritable (e : Tree) : Type 0 where
  pub formed : IsWellFormed e
  pub low : height e ≤ most_height

-- no constant's value is among the definitions
abbrev pub IsWrittenDefinition : Defined → Type 0
IsWrittenDefinition (Given x v) = ⊥
IsWrittenDefinition (Means x ps e) = IsName x × AreNames ps × IsWritable e

abbrev pub IsWrittenAction : Name × Tree → Type 0
IsWrittenAction a = IsName a.0 × IsWritable a.1

pub record IsWrittenProcess (p : WrittenProcess) : Type 0 where
  pub name : IsName p.name
  pub actions : AllByRecursion IsWrittenAction p.actions
  pub own : IsWritable (process_body p)

pub record IsWritten (m : Module) : Type 0 where
  pub name : IsName m.name
  pub constants : AreNames m.constants
  pub definitions : AllByRecursion IsWrittenDefinition m.definitions
  pub variables : AreNames m.variables
  pub some_variable : m.variables ≡ [] → ⊥
  pub sets : IsWritable (proc_set_of m)
  pub init : IsWritable m.init
  pub processes : AllByRecursion IsWrittenProcess m.processes
  pub ending : IsWritable (terminating_body m)
  pub next : IsWritable (next_body m)
  pub has_processes : HasProcesses m
