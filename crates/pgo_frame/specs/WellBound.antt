-- What is asked of a bound specification, so that what a section does hangs on its own components and on what it accesses alone.
use Rattle.std.specs.Prelude.{◌≡◌, ℕ, true, Some}
use Rattle.pgo_base.specs.Lookup.{Name}
use Rattle.pgo_model.specs.Machine.{nth}
use Rattle.pgo_model.specs.Names.{is_among}
use Rattle.pgo_model.specs.Written.{written}
use Rattle.pgo_syntax.specs.Statement.{labeled}
use Rattle.pgo_syntax.specs.declared.bound.Bound.{Bound}
use Rattle.pgo_syntax.specs.declared.bound.Instance.{Instance}
use Rattle.pgo_syntax.specs.declared.process.Process.{Process}
use Rattle.pgo_bound.specs.State.{AreDifferent, own_names, variables_of}
use Rattle.pgo_meaning.specs.MacrosPlaced.{bodies, placed_among}
use Rattle.pgo_meaning.specs.Parameters.{own_variables}
use Rattle.pgo_meaning.specs.System.{globals_in}
use Rattle.pgo_meaning.specs.SystemStates.{IsDeclared}
use Rattle.pgo_accesses.specs.WithoutYield.{LabeledWithout}

-- x is a value parameter or a local of a process
abbrev pub IsLocal : Bound → Name → Type 0
IsLocal b x = (n m : ℕ) × (p : Process) × (y : Name) × (nth b.spec.processes n ≡ Some p) × (nth (own_names b.spec p) m ≡ Some y) × (x ≡ written p.name.name y)

-- its variables have names that differ; what an instance is bound to are declared globals, and its value parameters and locals are
-- variables of a process; and no `yield` stands in an archetype's body, macros in place
pub record WellBound (b : Bound) : Type 0 where
  pub differ : AreDifferent (variables_of b.spec)
  pub bound : (k n : ℕ) (i : Instance) (g : Name) → nth b.instances k ≡ Some i → nth (globals_in i.bindings) n ≡ Some g → IsDeclared b g
  pub owns : (k : ℕ) (i : Instance) (x : Name) → nth b.instances k ≡ Some i → is_among x (own_variables i.process i.archetype i.bindings) ≡ true → IsLocal b x
  pub yields : (k : ℕ) (i : Instance) → nth b.instances k ≡ Some i → LabeledWithout (placed_among (bodies b.spec.macros) (labeled i.archetype.body))
