-- What binding gives of globals and resources, so that a state is the same for the bound specification and for its system.
use Rattle.std.specs.Prelude.{◌≡◌, ℕ, Some, None}
use Rattle.pgo_base.specs.Lookup.{Name}
use Rattle.pgo_model.specs.Machine.{nth}
use Rattle.pgo_syntax.specs.declared.bound.Bound.{Bound}
use Rattle.pgo_syntax.specs.declared.bound.Instance.{Instance}
use Rattle.pgo_syntax.specs.declared.bound.Resource.{Resource}
use Rattle.pgo_syntax.specs.declared.archetype.Extent.{Extent}
use Rattle.pgo_syntax.specs.declared.declaration.Declaration.{Declaration}
use Rattle.pgo_syntax.specs.declared.name.PlacedName.{PlacedName}
use Rattle.pgo_syntax.specs.declared.process.Argument.TheVariants as arguments
use Rattle.pgo_syntax.specs.declared.process.Process.{Process}
use Rattle.pgo_syntax.specs.declared.spec.Spec.{Spec}
use Rattle.pgo_bound.specs.declared.kinds.Kind.TheVariants.{Unbound, AsWhole, ByElement}
use Rattle.pgo_bound.specs.Sound.{index_in}
use Rattle.pgo_bound.specs.State.{kind_in}
use Rattle.pgo_meaning.specs.System.{globals_in}

abbrev pub IsDeclared : Bound → Name → Type 0
IsDeclared b g = (n : ℕ) × (d : Declaration) × (nth b.spec.globals n ≡ Some d) × (d.name.name ≡ g)

-- there is a resource of g as a whole
abbrev pub HasWhole : Bound → Name → Type 0
HasWhole b g = (n : ℕ) × (r : Resource) × (nth b.resources n ≡ Some r) × (r.global ≡ g) × (index_in r ≡ None)

-- what the instances are bound to and what the resources are of are declared globals; of a global that is bound as a whole there
-- is a resource as a whole, of one that is bound by element there is none, and of one that is not bound there is no resource
pub record GlobalsBound (b : Bound) : Type 0 where
  pub bound : (k n : ℕ) (i : Instance) (g : Name) → nth b.instances k ≡ Some i → nth (globals_in i.bindings) n ≡ Some g → IsDeclared b g
  pub shared : (n : ℕ) (r : Resource) → nth b.resources n ≡ Some r → IsDeclared b r.global
  pub whole : (n : ℕ) (d : Declaration) → nth b.spec.globals n ≡ Some d → kind_in b d.name.name ≡ AsWhole → HasWhole b d.name.name
  pub elements : (g : Name) → kind_in b g ≡ ByElement → HasWhole b g → ⊥
  pub unbound : (n : ℕ) (r : Resource) → nth b.resources n ≡ Some r → kind_in b r.global ≡ Unbound → ⊥

-- each `ref` argument of a process is a declared global, as the rules on names ask
abbrev pub RefsDeclared : Spec → Type 0
RefsDeclared s =
    (n m : ℕ) (p : Process) (g : PlacedName) (e : Extent) → nth s.processes n ≡ Some p → nth p.arguments m ≡ Some (arguments.Ref g e)
    → (j : ℕ) × (d : Declaration) × (nth s.globals j ≡ Some d) × (d.name.name ≡ g.name)
