-- When a list of variables with values is a state of a bound specification, and when it has the domains of the start.
use Rattle.std.specs.Prelude.{◌≡◌, ℕ, if◌then◌else◌, IsTrue, List, [], ◌∷◌, ◌++◌, map, filter, Option, Some, None}
use Rattle.std.specs.List.{filter_map, flat_map}
use Rattle.pgo_base.specs.Data.{Data, function, Pairs}
use Rattle.pgo_base.specs.View.{data_of}
use Rattle.pgo_base.specs.Sets.{in_order}
use Rattle.pgo_base.specs.Lookup.{Name, Vars, same_name, find}
use Rattle.pgo_model.specs.Machine.{nth}
pub use Rattle.pgo_model.specs.Names.{AreDifferent}
use Rattle.pgo_model.specs.State.{AllValues, is_shallow}
use Rattle.pgo_model.specs.Variables.{IsFunctionOn, HasOneDomain}
use Rattle.pgo_model.specs.Written.{pc, written}
use Rattle.pgo_syntax.specs.declared.archetype.Archetype.{Archetype}
use Rattle.pgo_syntax.specs.declared.archetype.Extent.{Extent}
use Rattle.pgo_syntax.specs.declared.bound.Bound.{Bound}
use Rattle.pgo_syntax.specs.declared.bound.Instance.{Instance}
use Rattle.pgo_syntax.specs.declared.bound.Target.{Target}
use Rattle.pgo_syntax.specs.declared.bound.Target.TheVariants as targets
use Rattle.pgo_syntax.specs.declared.declaration.Declaration.{Declaration}
use Rattle.pgo_syntax.specs.declared.process.Argument.{Argument}
use Rattle.pgo_syntax.specs.declared.process.Argument.TheVariants as arguments
use Rattle.pgo_syntax.specs.declared.process.Process.{Process}
use Rattle.pgo_syntax.specs.declared.spec.Spec.{Spec}
use Rattle.pgo_bound.specs.declared.kinds.Kind.{Kind}
use Rattle.pgo_bound.specs.declared.kinds.Kind.TheVariants.{ByElement}
use Rattle.pgo_bound.specs.Runs.{handed_from, archetype_named, kind_of_extents}

-- the parameter's name, where it is handed a value
abbrev pub value_name : Name → Argument → Option Name
value_name x (arguments.Ref g e) = None
value_name x (arguments.Value place e) = Some x

abbrev pub names_with : Process → Archetype → List Name
names_with p a =
    filter_map (λ h. value_name h.parameter.name.name h.argument) (handed_from 1 a.params p.arguments) ++ map (λ d. d.name.name) a.locals

abbrev pub names_or_none : Process → Option Archetype → List Name
names_or_none p None = []
names_or_none p (Some a) = names_with p a

-- the value parameters of a process, and then its locals
abbrev pub own_names : Spec → Process → List Name
own_names s p = names_or_none p (archetype_named p.archetype.name s.archetypes)

-- the variables in the order that the written module has them
abbrev pub variables_of : Spec → List Name
variables_of s =
    map (λ d. d.name.name) s.globals ++ (pc ∷ []) ++ flat_map (λ p. map (written p.name.name) (own_names s p)) s.processes

abbrev pub id_of : Instance → Data
id_of i = data_of i.id

-- the identifiers of all instances, in value order
abbrev pub identifiers : Bound → List Data
identifiers b = in_order (map id_of b.instances)

-- the identifiers of a process
abbrev pub identifiers_of : Bound → Name → List Data
identifiers_of b p = in_order (map id_of (filter (λ i. same_name p i.process) b.instances))

abbrev pub target_extent : Name → Target → Option Extent
target_extent g (targets.Value e) = None
target_extent g (targets.Global x e m) = if same_name g x then Some e else None

-- what a global is among the resources, by the bindings of the instances
abbrev pub kind_in : Bound → Name → Kind
kind_in b g = kind_of_extents (flat_map (λ i. filter_map (λ x. target_extent g x.target) i.bindings) b.instances)

-- each variable has one value of depth at most 256; `pc` is a function on all identifiers, each value parameter and each
-- local of a process is one on the process's identifiers, and each element-bound global is a function
pub record IsState (b : Bound) (s : Vars) : Type 0 where
  pub variables : map (λ p. p.0) s ≡ variables_of b.spec
  pub values : AllValues s
  pub shallow : IsTrue (is_shallow s)
  pub places : IsFunctionOn (identifiers b) (find pc s)
  pub locals : (n m : ℕ) (p : Process) (x : Name) → nth b.spec.processes n ≡ Some p → nth (own_names b.spec p) m ≡ Some x
      → IsFunctionOn (identifiers_of b p.name.name) (find (written p.name.name x) s)
  pub elements : (n : ℕ) (d : Declaration) → nth b.spec.globals n ≡ Some d → kind_in b d.name.name ≡ ByElement
      → (ps : Pairs) × (find d.name.name s ≡ Some (function ps))

-- a state in which each element-bound global has the domain that it starts with
pub record IsStateOnDomains (b : Bound) (s : Vars) : Type 0 where
  pub state : IsState b s
  pub domains : (n : ℕ) (d : Declaration) → nth b.spec.globals n ≡ Some d → kind_in b d.name.name ≡ ByElement → HasOneDomain b.start s d.name.name
