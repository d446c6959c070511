-- When a bound system is sound, and which names of a specification it takes for that.
use Rattle.std.specs.Prelude.{◌≡◌, ℕ, ◌≤◌, List, [], ◌∷◌, ◌++◌, length, Option, Some, None, ◌⊎◌}
use Rattle.pgo_base.specs.Data.{Data, string, function, Pairs, graph, keys}
use Rattle.pgo_base.specs.View.{data_of}
use Rattle.pgo_base.specs.Lookup.{Name, Vars, find}
use Rattle.pgo_model.specs.Machine.{nth}
use Rattle.pgo_model.specs.Options.{on}
use Rattle.pgo_model.specs.Written.{pc, done, written}
use Rattle.pgo_syntax.specs.Statement.{Statement, skip, assign, if_then, if_else, while_do, either_of, await_that, with_in, print_out, assert_that, go_to, call_macro, yield_as, block, Statements, no_statements, more_statements, LabeledStatements, no_labeled, more_labeled, GuardedStatements, no_guarded, more_guarded, labeled}
use Rattle.pgo_syntax.specs.declared.name.PlacedName.{PlacedName}
use Rattle.pgo_syntax.specs.declared.archetype.Archetype.{Archetype}
use Rattle.pgo_syntax.specs.declared.bound.Bound.{Bound}
use Rattle.pgo_syntax.specs.declared.bound.Instance.{Instance}
use Rattle.pgo_syntax.specs.declared.bound.Resource.{Resource}
use Rattle.pgo_syntax.specs.declared.declaration.Declaration.{Declaration}
use Rattle.pgo_syntax.specs.declared.process.Process.{Process}
use Rattle.pgo_syntax.specs.declared.spec.Spec.{Spec}
use Rattle.pgo_bound.specs.declared.kinds.Kind.TheVariants.{ByElement}
use Rattle.pgo_bound.specs.Runs.{archetype_named}
use Rattle.pgo_bound.specs.State.{AreDifferent, IsState, id_of, kind_in, own_names, variables_of}
use Rattle.pgo_bound.specs.Declares.{value_in}

abbrev mutual
  -- the labels in a statement
  pub labels_in : Statement → List Name
  labels_in (skip p) = []
  labels_in (assign p x) = []
  labels_in (if_then p bs) = labels_guarded bs
  labels_in (if_else p bs s) = labels_guarded bs ++ labels_in s
  labels_in (while_do p e s) = labels_in s
  labels_in (either_of p ss) = labels_each ss
  labels_in (await_that p e) = []
  labels_in (with_in p ns s) = labels_in s
  labels_in (print_out p e) = []
  labels_in (assert_that p e) = []
  labels_in (go_to p l) = []
  labels_in (call_macro p m es) = []
  labels_in (yield_as p e) = []
  labels_in (block p ls) = labels_among ls

  pub labels_each : Statements → List Name
  labels_each no_statements = []
  labels_each (more_statements s ss) = labels_in s ++ labels_each ss

  -- the labels of statements, and of those within them
  pub labels_among : LabeledStatements → List Name
  labels_among no_labeled = []
  labels_among (more_labeled l s ls) = on [] l (λ x. x.name ∷ []) ++ labels_in s ++ labels_among ls

  pub labels_guarded : GuardedStatements → List Name
  labels_guarded no_guarded = []
  labels_guarded (more_guarded p e s bs) = labels_in s ++ labels_guarded bs

-- l is the written name of a label of the instance's process
abbrev pub IsLabel : Instance → Name → Type 0
IsLabel i l = (n : ℕ) × (x : Name) × (nth (labels_among (labeled i.archetype.body)) n ≡ Some x) × (l ≡ written i.process x)

-- the instance is at a label of its process, or at Done
abbrev pub IsAtLabel : Instance → Vars → Type 0
IsAtLabel i s = (l : Name) × (value_in s pc (id_of i) ≡ Some (string l)) × ((l ≡ done) ⊎ IsLabel i l)

abbrev pub index_in : Resource → Option Data
index_in r = elim r.index as (λ o. Option Data) [ None ↦ None | Some v ↦ Some (data_of v) ]

-- v is the index of a resource of this global
abbrev pub IsIndex : Bound → Name → Data → Type 0
IsIndex b g v = (n : ℕ) × (r : Resource) × (nth b.resources n ≡ Some r) × (r.global ≡ g) × (index_in r ≡ Some v)

-- the global's value is a function whose domain is the indices of its resources
abbrev pub HasDomain : Bound → Vars → Name → Type 0
HasDomain b s g =
    (ps : Pairs) × (find g s ≡ Some (function ps)) × ((n : ℕ) (v : Data) → nth (keys (graph ps)) n ≡ Some v → IsIndex b g v) × ((v : Data) → IsIndex b g v → (n : ℕ) × (nth (keys (graph ps)) n ≡ Some v))

-- g is a declared global, and neither `pc` nor a local or value parameter
abbrev pub IsGlobal : Bound → Name → Type 0
IsGlobal b g =
    ((n : ℕ) × (d : Declaration) × (nth b.spec.globals n ≡ Some d) × (d.name.name ≡ g)) × (g ≡ pc → ⊥)
    × ((n m : ℕ) (p : Process) (x : Name) → nth b.spec.processes n ≡ Some p → nth (own_names b.spec p) m ≡ Some x → g ≡ written p.name.name x → ⊥)

-- instances and resources are numbered in order from 0, at most 64 and at most 1,024 of them, and no two instances have one
-- identifier
pub record IsNumbered (b : Bound) : Type 0 where
  pub instance_numbers : (n : ℕ) (i : Instance) → nth b.instances n ≡ Some i → i.number ≡ n
  pub resource_numbers : (n : ℕ) (r : Resource) → nth b.resources n ≡ Some r → r.number ≡ n
  pub few_instances : length b.instances ≤ 64
  pub few_resources : length b.resources ≤ 1024
  pub identifiers_differ : (n m : ℕ) (i j : Instance) → nth b.instances n ≡ Some i → nth b.instances m ≡ Some j → id_of i ≡ id_of j → n ≡ m

-- each instance starts at a label of its process or at Done
abbrev pub AreAtLabels : Bound → Type 0
AreAtLabels b = (n : ℕ) (i : Instance) → nth b.instances n ≡ Some i → IsAtLabel i b.start

-- numbers and identifiers are as they must be; two resources are of one global only where both have an index and the
-- indices differ, and none is a component of an instance; the start is a state in which each instance is at a label of its
-- process or at Done, and the domain of each element-bound global is the indices of its resources, also where it has no
-- resource; so is the domain of each global that has a resource with an index
pub record Sound (b : Bound) : Type 0 where
  pub numbered : IsNumbered b
  pub resources_differ : (n m : ℕ) (q r : Resource) → nth b.resources n ≡ Some q → nth b.resources m ≡ Some r
      → q.global ≡ r.global → (n ≡ m) ⊎ ((v w : Data) × (index_in q ≡ Some v) × (index_in r ≡ Some w) × (v ≡ w → ⊥))
  pub resources_global : (n : ℕ) (r : Resource) → nth b.resources n ≡ Some r → IsGlobal b r.global
  pub start : IsState b b.start
  pub domains : (n : ℕ) (d : Declaration) → nth b.spec.globals n ≡ Some d → kind_in b d.name.name ≡ ByElement → HasDomain b b.start d.name.name
  pub indexed : (n : ℕ) (r : Resource) (i : Data) → nth b.resources n ≡ Some r → index_in r ≡ Some i → HasDomain b b.start r.global
  pub labels : AreAtLabels b

-- what the rules on names and labels say of a specification: its variables have names that differ, so have its processes,
-- each process's archetype is there and gets as many arguments as it has parameters, and its first statement has a label
pub record WellNamed (s : Spec) : Type 0 where
  pub variables_differ : AreDifferent (variables_of s)
  pub processes_differ : (n m : ℕ) (p q : Process) → nth s.processes n ≡ Some p → nth s.processes m ≡ Some q → p.name.name ≡ q.name.name → n ≡ m
  pub archetypes : (n : ℕ) (p : Process) → nth s.processes n ≡ Some p
      → (a : Archetype) × (archetype_named p.archetype.name s.archetypes ≡ Some a) × (length a.params ≡ length p.arguments)
  pub labels : (n : ℕ) (p : Process) (a : Archetype) → nth s.processes n ≡ Some p → archetype_named p.archetype.name s.archetypes ≡ Some a
      → (l : PlacedName) × (t : Statement) × (rest : List (Option PlacedName × Statement)) × (a.body ≡ (Some l, t) ∷ rest)
