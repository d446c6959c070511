-- How expressions and statements of a text are formed: no expression speaks of a next state, and a call has an argument.
use Rattle.std.specs.Prelude.{List, [], ◌∷◌}
use Rattle.pgo_base.specs.Tree.{Tree, name, primed, number, text, truth, at, word, unary, binary, product, cond_of, case_of, case_other, let_in, quantified, choose, tuple, set_of, filter_of, image, fun_of, fun_set, record_of, record_set, except, index, field, call, unchanged, Trees, no_trees, more_trees, NamedTrees, no_named, more_named, TreePairs, no_arms, more_arms, BoundTrees, no_bound, more_bound, PathTrees, no_paths, more_paths}
use Rattle.pgo_syntax.specs.Statement.{Statement, skip, assign, if_then, if_else, while_do, either_of, await_that, with_in, print_out, assert_that, go_to, call_macro, yield_as, block, Statements, no_statements, more_statements, LabeledStatements, no_labeled, more_labeled, GuardedStatements, no_guarded, more_guarded}
use Rattle.pgo_syntax.specs.declared.assignment.Assignment.{Assignment}
use Rattle.pgo_syntax.specs.declared.assignment.Step.{Step}
use Rattle.pgo_syntax.specs.declared.assignment.Step.TheVariants as step
use Rattle.pgo_syntax.specs.declared.binding.WithName.{WithName}
use Rattle.pgo_uses.specs.StatementUses.{origin_tree}

abbrev pub HasSome : Trees → Type 0
HasSome no_trees = ⊥
HasSome (more_trees t ts) = Unit {0}

abbrev mutual
  pub Spoken : Tree → Type 0
  Spoken (name x) = Unit {0}
  Spoken (primed x) = ⊥
  Spoken (number z) = Unit {0}
  Spoken (text s) = Unit {0}
  Spoken (truth b) = Unit {0}
  Spoken at = Unit {0}
  Spoken (word w) = Unit {0}
  Spoken (unary o a) = Spoken a
  Spoken (binary o a b) = Spoken a × Spoken b
  Spoken (product ts) = AllSpoken ts
  Spoken (cond_of p a b) = Spoken p × Spoken a × Spoken b
  Spoken (case_of gs) = ArmsSpoken gs
  Spoken (case_other gs e) = ArmsSpoken gs × Spoken e
  Spoken (let_in ds e) = NamedSpoken ds × Spoken e
  Spoken (quantified q bs p) = BoundSpoken bs × Spoken p
  Spoken (choose x r p) = Spoken r × Spoken p
  Spoken (tuple ts) = AllSpoken ts
  Spoken (set_of ts) = AllSpoken ts
  Spoken (filter_of x r p) = Spoken r × Spoken p
  Spoken (image e x r) = Spoken e × Spoken r
  Spoken (fun_of bs e) = BoundSpoken bs × Spoken e
  Spoken (fun_set a b) = Spoken a × Spoken b
  Spoken (record_of ds) = NamedSpoken ds
  Spoken (record_set ds) = NamedSpoken ds
  Spoken (except f us) = Spoken f × PathsSpoken us
  Spoken (index f ts) = Spoken f × AllSpoken ts
  Spoken (field r x) = Spoken r
  Spoken (call x ts) = HasSome ts × AllSpoken ts
  Spoken (unchanged xs) = ⊥

  pub AllSpoken : Trees → Type 0
  AllSpoken no_trees = Unit {0}
  AllSpoken (more_trees t ts) = Spoken t × AllSpoken ts

  pub ArmsSpoken : TreePairs → Type 0
  ArmsSpoken no_arms = Unit {0}
  ArmsSpoken (more_arms g e gs) = Spoken g × Spoken e × ArmsSpoken gs

  pub NamedSpoken : NamedTrees → Type 0
  NamedSpoken no_named = Unit {0}
  NamedSpoken (more_named x t ts) = Spoken t × NamedSpoken ts

  pub BoundSpoken : BoundTrees → Type 0
  BoundSpoken no_bound = Unit {0}
  BoundSpoken (more_bound xs r bs) = Spoken r × BoundSpoken bs

  pub PathsSpoken : PathTrees → Type 0
  PathsSpoken no_paths = Unit {0}
  PathsSpoken (more_paths ps e us) = AllSpoken ps × Spoken e × PathsSpoken us

-- ---- statements

abbrev pub StepSpoken : Step → Type 0
StepSpoken (step.Index e) = Spoken e
StepSpoken (step.Field x) = Unit {0}

abbrev pub PathSpoken : List Step → Type 0
PathSpoken [] = Unit {0}
PathSpoken (p ∷ ps) = StepSpoken p × PathSpoken ps

abbrev pub AssignmentsSpoken : List Assignment → Type 0
AssignmentsSpoken [] = Unit {0}
AssignmentsSpoken (a ∷ as') = PathSpoken a.left.path × Spoken a.right × AssignmentsSpoken as'

abbrev pub WithsSpoken : List WithName → Type 0
WithsSpoken [] = Unit {0}
WithsSpoken (w ∷ ws) = Spoken (origin_tree w.origin) × WithsSpoken ws

abbrev pub ArgumentsSpoken : List Tree → Type 0
ArgumentsSpoken [] = Unit {0}
ArgumentsSpoken (t ∷ ts) = Spoken t × ArgumentsSpoken ts

-- Y: what it takes that a `yield` stands there
abbrev mutual
  pub StatementSpoken : Type 0 → Statement → Type 0
  StatementSpoken Y (skip p) = Unit {0}
  StatementSpoken Y (assign p as') = AssignmentsSpoken as'
  StatementSpoken Y (if_then p bs) = GuardedSpoken Y bs
  StatementSpoken Y (if_else p bs s) = GuardedSpoken Y bs × StatementSpoken Y s
  StatementSpoken Y (while_do p e s) = Spoken e × StatementSpoken Y s
  StatementSpoken Y (either_of p ss) = EachSpoken Y ss
  StatementSpoken Y (await_that p e) = Spoken e
  StatementSpoken Y (with_in p ws s) = WithsSpoken ws × StatementSpoken Y s
  StatementSpoken Y (print_out p e) = Spoken e
  StatementSpoken Y (assert_that p e) = Spoken e
  StatementSpoken Y (go_to p l) = Unit {0}
  StatementSpoken Y (call_macro p m ts) = ArgumentsSpoken ts
  StatementSpoken Y (yield_as p e) = Y × Spoken e
  StatementSpoken Y (block p ls) = LabeledSpoken Y ls

  pub EachSpoken : Type 0 → Statements → Type 0
  EachSpoken Y no_statements = Unit {0}
  EachSpoken Y (more_statements s ss) = StatementSpoken Y s × EachSpoken Y ss

  pub LabeledSpoken : Type 0 → LabeledStatements → Type 0
  LabeledSpoken Y no_labeled = Unit {0}
  LabeledSpoken Y (more_labeled l s ls) = StatementSpoken Y s × LabeledSpoken Y ls

  pub GuardedSpoken : Type 0 → GuardedStatements → Type 0
  GuardedSpoken Y no_guarded = Unit {0}
  GuardedSpoken Y (more_guarded p e s bs) = Spoken e × StatementSpoken Y s × GuardedSpoken Y bs
