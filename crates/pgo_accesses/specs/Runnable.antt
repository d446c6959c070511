-- What is asked of a bound specification, so that its sections are trees of accesses.
use Rattle.std.specs.Prelude.{◌≡◌, ℕ, true, Some}
use Rattle.pgo_base.specs.Lookup.{Name, Vars}
use Rattle.pgo_model.specs.Log.{own_names}
use Rattle.pgo_model.specs.Machine.{nth}
use Rattle.pgo_model.specs.SystemState.{IsSystemState}
use Rattle.pgo_syntax.specs.Statement.{labeled}
use Rattle.pgo_syntax.specs.declared.bound.Bound.{Bound}
use Rattle.pgo_syntax.specs.declared.bound.Instance.{Instance}
use Rattle.pgo_bound.specs.Sound.{Sound, IsAtLabel}
use Rattle.pgo_bound.specs.State.{AreDifferent, id_of, variables_of}
use Rattle.pgo_model.specs.Names.{is_among}
use Rattle.pgo_meaning.specs.Ends.{KeepsElements}
use Rattle.pgo_meaning.specs.LabelSections.{AreUnlabelled, NoneIsDone}
use Rattle.pgo_meaning.specs.MacrosPlaced.{bodies, placed_among}
use Rattle.pgo_meaning.specs.Parameters.{own_variables}
use Rattle.pgo_meaning.specs.System.{system_of}
use Rattle.pgo_meaning.specs.SystemStates.{GlobalsBound}
use Rattle.pgo_accesses.specs.WithoutYield.{LabeledWithout}

-- a state of the system in which each instance is at a label of its process, or at Done
pub record IsRunState (b : Bound) (s : Vars) : Type 0 where
  pub state : IsSystemState (system_of b) s
  pub labels : (k : ℕ) (i : Instance) → nth b.instances k ≡ Some i → IsAtLabel i s

-- it is sound, its variables have names that differ, what it binds are declared globals, its sections change globals that are bound
-- by element by their elements alone, an instance's value parameters and locals are variables of its process, no label stands in a
-- macro and none is `Done`, and no `yield` stands in an archetype's body, macros in place
pub record Runnable (b : Bound) : Type 0 where
  pub sound : Sound b
  pub differ : AreDifferent (variables_of b.spec)
  pub globals : GlobalsBound b
  pub keeps : (k : ℕ) (i : Instance) → nth b.instances k ≡ Some i → KeepsElements b i
  pub owns : (k : ℕ) (i : Instance) (x : Name) → nth b.instances k ≡ Some i → is_among x (own_variables i.process i.archetype i.bindings) ≡ true → is_among x (own_names (id_of i) (system_of b).own) ≡ true
  pub unlabelled : AreUnlabelled b.spec.macros
  pub none_done : (k : ℕ) (i : Instance) → nth b.instances k ≡ Some i → NoneIsDone i
  pub yields : (k : ℕ) (i : Instance) → nth b.instances k ≡ Some i → LabeledWithout (placed_among (bodies b.spec.macros) (labeled i.archetype.body))
