-- The declared starts of a bound specification.
use Rattle.std.specs.Prelude.{◌≡◌, ℕ, true, List, Option, Some, None, option_and_then}
use Rattle.pgo_base.specs.Data.{Data, string, model}
use Rattle.pgo_base.specs.Lookup.{Name, Vars, find}
use Rattle.pgo_base.specs.Tree.{Tree}
use Rattle.pgo_base.specs.declared.module.Defined.{Defined}
use Rattle.pgo_model.specs.Machine.{nth}
use Rattle.pgo_model.specs.Operators.{apply, is_member}
use Rattle.pgo_model.specs.Written.{pc, written, default_init_value}
use Rattle.pgo_syntax.specs.declared.binding.Origin.{Origin}
use Rattle.pgo_syntax.specs.declared.binding.Origin.TheVariants.{Equals, In}
use Rattle.pgo_syntax.specs.declared.bound.Binding.{Binding}
use Rattle.pgo_syntax.specs.declared.bound.Bound.{Bound}
use Rattle.pgo_syntax.specs.declared.bound.Instance.{Instance}
use Rattle.pgo_syntax.specs.declared.bound.Target.TheVariants as targets
use Rattle.pgo_syntax.specs.declared.declaration.Declaration.{Declaration}
use Rattle.pgo_bound.specs.Values.{closed_value, value_at}
use Rattle.pgo_bound.specs.BoundOf.{first_label_in}
use Rattle.pgo_bound.specs.State.{id_of}

-- a global may start with this value: its initial value, or a member of its set
abbrev pub StartsAs : List Defined → Option Origin → Data → Type 0
StartsAs ds None v = v ≡ model default_init_value
StartsAs ds (Some (Equals e)) v = closed_value ds e ≡ Some v
StartsAs ds (Some (In e)) v = is_member v (closed_value ds e) ≡ Some true

-- so may a local at an identifier
abbrev pub StartsAt : List Defined → Option Origin → Data → Data → Type 0
StartsAt ds None id v = v ≡ model default_init_value
StartsAt ds (Some (Equals e)) id v = value_at ds id e ≡ Some v
StartsAt ds (Some (In e)) id v = is_member v (closed_value ds e) ≡ Some true

-- what a variable that is a function has at an identifier
abbrev pub value_in : Vars → Name → Data → Option Data
value_in s x id = option_and_then (λ f. apply f id) (find x s)

-- each global has its initial value or a member of its set; `pc` has each identifier's first label; each local has, at
-- each identifier, its value or a member of its set; and each value parameter has its argument's value
pub record Declares (b : Bound) (s : Vars) : Type 0 where
  pub globals : (n : ℕ) (d : Declaration) → nth b.spec.globals n ≡ Some d
      → (v : Data) × (find d.name.name s ≡ Some v) × StartsAs b.defs d.initial v
  pub places : (n : ℕ) (i : Instance) → nth b.instances n ≡ Some i
      → value_in s pc (id_of i) ≡ Some (string (first_label_in i.process i.archetype.body))
  pub locals : (n m : ℕ) (i : Instance) (d : Declaration) → nth b.instances n ≡ Some i → nth i.archetype.locals m ≡ Some d
      → (v : Data) × (value_in s (written i.process d.name.name) (id_of i) ≡ Some v) × StartsAt b.defs d.initial (id_of i) v
  pub arguments : (n m : ℕ) (i : Instance) (x : Binding) (e : Tree) → nth b.instances n ≡ Some i → nth i.bindings m ≡ Some x → x.target ≡ targets.Value e
      → (v : Data) × (value_in s (written i.process x.parameter) (id_of i) ≡ Some v) × (value_at b.defs (id_of i) e ≡ Some v)
