-- The literals of statements are within limits, and what is asked of a specification, so that its system's states are kept.
use Rattle.std.specs.Prelude.{◌≡◌, ℕ, IsTrue, List, map, Some, None}
use Rattle.std.specs.List.{AllByRecursion}
use Rattle.pgo_syntax.specs.Statement.{Statement, skip, assign, if_then, if_else, while_do, either_of, await_that, with_in, print_out, assert_that, go_to, call_macro, yield_as, block, Statements, no_statements, more_statements, LabeledStatements, no_labeled, more_labeled, GuardedStatements, no_guarded, more_guarded, labeled}
use Rattle.pgo_syntax.specs.declared.assignment.Assignment.{Assignment}
use Rattle.pgo_syntax.specs.declared.assignment.Step.{Step}
use Rattle.pgo_syntax.specs.declared.assignment.Step.TheVariants as step
use Rattle.pgo_syntax.specs.declared.bound.Bound.{Bound}
use Rattle.pgo_syntax.specs.declared.bound.Instance.{Instance}
use Rattle.pgo_syntax.specs.declared.bound.Mapping.{Mapping}
use Rattle.pgo_syntax.specs.declared.bound.Mapping.TheVariants.{Identity, Macro}
use Rattle.pgo_syntax.specs.declared.bound.Target.{Target}
use Rattle.pgo_syntax.specs.declared.bound.Target.TheVariants as targets
use Rattle.pgo_base.specs.Data.{Data}
use Rattle.pgo_model.specs.Machine.{nth}
use Rattle.pgo_syntax.specs.declared.spec.Spec.{Spec}
use Rattle.pgo_bound.specs.BoundOf.{bound_of}
use Rattle.pgo_bound.specs.Sound.{Sound}
use Rattle.pgo_bound.specs.State.{AreDifferent, variables_of}
use Rattle.pgo_meaning.specs.Ends.{KeepsElements}
use Rattle.pgo_meaning.specs.SystemStates.{RefsDeclared}
use Rattle.pgo_systems.specs.Gotos.{GotosKnown}
use Rattle.pgo_syntax.specs.declared.macros.MappingMacro.{MappingMacro}
use Rattle.pgo_base.specs.Lookup.{Name, find}
use Rattle.pgo_model.specs.ModuleView.{defined_view}
use Rattle.pgo_sections.specs.Code.{Code}
use Rattle.pgo_meaning.specs.TreesAgree.{sections_at}
use Rattle.pgo_systems.specs.Counted.{AllCounted, counted}
use Rattle.pgo_values.specs.Limits.{Limits}
use Rattle.pgo_values.specs.Literals.{DefinedWithin, LiteralsWithin}
use Rattle.pgo_systems.specs.Literals.{CodeWithin, OriginWithin, StartFits, StartWithin}

module _ (limits : Limits) where
  abbrev pub StepWithin : Step → Type 0
  StepWithin (step.Index e) = LiteralsWithin limits e
  StepWithin (step.Field x) = IsTrue (limits.text x)

  abbrev pub AssignmentWithin : Assignment → Type 0
  AssignmentWithin a = AllByRecursion StepWithin a.left.path × LiteralsWithin limits a.right

  abbrev mutual
    pub StatementWithin : Statement → Type 0
    StatementWithin (skip p) = Unit {0}
    StatementWithin (assign p as') = AllByRecursion AssignmentWithin as'
    StatementWithin (if_then p bs) = GuardedWithin bs
    StatementWithin (if_else p bs s) = GuardedWithin bs × StatementWithin s
    StatementWithin (while_do p e s) = LiteralsWithin limits e × StatementWithin s
    StatementWithin (either_of p ss) = StatementsWithin ss
    StatementWithin (await_that p e) = LiteralsWithin limits e
    StatementWithin (with_in p ws s) = AllByRecursion (λ w. OriginWithin limits w.origin) ws × StatementWithin s
    StatementWithin (print_out p e) = LiteralsWithin limits e
    StatementWithin (assert_that p e) = LiteralsWithin limits e
    StatementWithin (go_to p l) = Unit {0}
    StatementWithin (call_macro p m es) = AllByRecursion (LiteralsWithin limits) es
    StatementWithin (yield_as p e) = LiteralsWithin limits e
    StatementWithin (block p ls) = LabeledWithin ls

    pub StatementsWithin : Statements → Type 0
    StatementsWithin no_statements = Unit {0}
    StatementsWithin (more_statements s ss) = StatementWithin s × StatementsWithin ss

    pub LabeledWithin : LabeledStatements → Type 0
    LabeledWithin no_labeled = Unit {0}
    LabeledWithin (more_labeled l s ls) = StatementWithin s × LabeledWithin ls

    pub GuardedWithin : GuardedStatements → Type 0
    GuardedWithin no_guarded = Unit {0}
    GuardedWithin (more_guarded p e s bs) = LiteralsWithin limits e × StatementWithin s × GuardedWithin bs

  abbrev pub MappingWithin : Mapping → Type 0
  MappingWithin Identity = Unit {0}
  MappingWithin (Macro m) = LabeledWithin (labeled m.read) × LabeledWithin (labeled m.write)

  abbrev pub TargetWithin : Target → Type 0
  TargetWithin (targets.Value e) = Unit {0}
  TargetWithin (targets.Global g e None) = Unit {0}
  TargetWithin (targets.Global g e (Some m)) = MappingWithin m

  -- the statements of the instance's archetype, of the macros, and of the mapping macros to which it is bound
  pub record TextWithin (b : Bound) (i : Instance) : Type 0 where
    pub body : LabeledWithin (labeled i.archetype.body)
    pub macros : AllByRecursion (λ m. LabeledWithin (labeled m.body)) b.spec.macros
    pub mappings : AllByRecursion (λ x. TargetWithin x.target) i.bindings

  -- constants are within the limits, and so are the literals in definitions and in the instance's sections
  pub record InstanceWithin (b : Bound) (i : Instance) : Type 0 where
    pub definitions : AllByRecursion (DefinedWithin limits) (map defined_view b.defs)
    pub sections : (l : Name) (c : Code) → find l (sections_at b i) ≡ Some c → CodeWithin limits c

  -- the literals of a mapping macro's blocks
  abbrev pub BlocksWithin : MappingMacro → Type 0
  BlocksWithin m = LabeledWithin (labeled m.read) × LabeledWithin (labeled m.write)

  -- each literal of the specification: those from which the start is made, and those in statements
  pub record SpecificationWithin (s : Spec) : Type 0 where
    pub start : StartWithin limits s
    pub archetypes : AllByRecursion (λ a. LabeledWithin (labeled a.body)) s.archetypes
    pub macros : AllByRecursion (λ m. LabeledWithin (labeled m.body)) s.macros
    pub mappings : AllByRecursion BlocksWithin s.mappings

-- ---- the literals are integers of 64 bits

abbrev pub TextFits : Bound → Instance → Type 0
TextFits = TextWithin counted

-- what the rules, the readers and binding say of a specification that is bound with these constants, so that it keeps its states
pub record SpecificationFits (s : Spec) (consts : List (Name × Data)) : Type 0 where
  pub sound : Sound (bound_of s consts)
  pub refs : RefsDeclared s
  pub differ : AreDifferent (variables_of s)
  pub constants : AllCounted consts
  pub start : StartFits s
  pub elements : (k : ℕ) (i : Instance) → nth (bound_of s consts).instances k ≡ Some i → KeepsElements (bound_of s consts) i
  pub texts : (k : ℕ) (i : Instance) → nth (bound_of s consts).instances k ≡ Some i → TextFits (bound_of s consts) i
  pub gotos : (k : ℕ) (i : Instance) → nth (bound_of s consts).instances k ≡ Some i → GotosKnown (bound_of s consts) i
