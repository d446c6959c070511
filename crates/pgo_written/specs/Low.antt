-- How high the expressions of a written module may be.
use Rattle.std.specs.Prelude.{◌≤◌, ℕ}
use Rattle.std.specs.List.{AllByRecursion}
use Rattle.pgo_model.specs.Module.{Module, WrittenProcess, proc_set_of, process_body, terminating_body, next_body}
use Rattle.pgo_model.specs.Val.{Defined, Given, Means}
use Rattle.pgo_expr_read.specs.Heights.{height}

abbrev pub IsLowDefinition : ℕ → Defined → Type 0
IsLowDefinition k (Given x v) = Unit {0}
IsLowDefinition k (Means x ps e) = height e ≤ k

pub record IsLowProcess (k : ℕ) (p : WrittenProcess) : Type 0 where
  pub actions : AllByRecursion (λ a. height a.1 ≤ k) p.actions
  pub own : height (process_body p) ≤ k

-- no expression of the module is higher
pub record IsLow (k : ℕ) (m : Module) : Type 0 where
  pub definitions : AllByRecursion (IsLowDefinition k) m.definitions
  pub sets : height (proc_set_of m) ≤ k
  pub init : height m.init ≤ k
  pub processes : AllByRecursion (IsLowProcess k) m.processes
  pub ending : height (terminating_body m) ≤ k
  pub next : height (next_body m) ≤ k
