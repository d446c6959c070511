-- The targets of the `goto`s in statements, and what the rules on labels say of them.
use Rattle.std.specs.Prelude.{◌≡◌, List, [], ◌∷◌, ◌++◌, Some, None, ◌⊎◌}
use Rattle.std.specs.List.{AllByRecursion}
use Rattle.pgo_base.specs.Lookup.{Name}
use Rattle.pgo_model.specs.Written.{done}
use Rattle.pgo_syntax.specs.Statement.{Statement, skip, assign, if_then, if_else, while_do, either_of, await_that, with_in, print_out, assert_that, go_to, call_macro, yield_as, block, Statements, no_statements, more_statements, LabeledStatements, no_labeled, more_labeled, GuardedStatements, no_guarded, more_guarded, labeled}
use Rattle.pgo_syntax.specs.declared.bound.Bound.{Bound}
use Rattle.pgo_syntax.specs.declared.bound.Instance.{Instance}
use Rattle.pgo_bound.specs.Among.{IsAmong}
use Rattle.pgo_bound.specs.Sound.{labels_among}
use Rattle.pgo_meaning.specs.LabelSections.{AreUnlabelled}

abbrev mutual
  pub gotos_in : Statement → List Name
  gotos_in (skip p) = []
  gotos_in (assign p x) = []
  gotos_in (if_then p bs) = gotos_guarded bs
  gotos_in (if_else p bs s) = gotos_guarded bs ++ gotos_in s
  gotos_in (while_do p e s) = gotos_in s
  gotos_in (either_of p ss) = gotos_each ss
  gotos_in (await_that p e) = []
  gotos_in (with_in p ns s) = gotos_in s
  gotos_in (print_out p e) = []
  gotos_in (assert_that p e) = []
  gotos_in (go_to p l) = l.name ∷ []
  gotos_in (call_macro p m es) = []
  gotos_in (yield_as p e) = []
  gotos_in (block p ls) = gotos_among ls

  pub gotos_each : Statements → List Name
  gotos_each no_statements = []
  gotos_each (more_statements s ss) = gotos_in s ++ gotos_each ss

  pub gotos_among : LabeledStatements → List Name
  gotos_among no_labeled = []
  gotos_among (more_labeled l s ls) = gotos_in s ++ gotos_among ls

  pub gotos_guarded : GuardedStatements → List Name
  gotos_guarded no_guarded = []
  gotos_guarded (more_guarded p e s bs) = gotos_in s ++ gotos_guarded bs

-- no `while` stands there without a label, up to the labels in it
abbrev mutual
  pub NoBareWhile : Statement → Type 0
  NoBareWhile (skip p) = Unit {0}
  NoBareWhile (assign p x) = Unit {0}
  NoBareWhile (if_then p bs) = NoneGuarded bs
  NoBareWhile (if_else p bs s) = NoneGuarded bs × NoBareWhile s
  NoBareWhile (while_do p e s) = ⊥
  NoBareWhile (either_of p ss) = NoneEach ss
  NoBareWhile (await_that p e) = Unit {0}
  NoBareWhile (with_in p ns s) = NoBareWhile s
  NoBareWhile (print_out p e) = Unit {0}
  NoBareWhile (assert_that p e) = Unit {0}
  NoBareWhile (go_to p l) = Unit {0}
  NoBareWhile (call_macro p m es) = Unit {0}
  NoBareWhile (yield_as p e) = Unit {0}
  NoBareWhile (block p ls) = NoneAmong ls

  pub NoneEach : Statements → Type 0
  NoneEach no_statements = Unit {0}
  NoneEach (more_statements s ss) = NoBareWhile s × NoneEach ss

  pub NoneAmong : LabeledStatements → Type 0
  NoneAmong no_labeled = Unit {0}
  NoneAmong (more_labeled None s ls) = NoBareWhile s × NoneAmong ls
  NoneAmong (more_labeled (Some y) s ls) = NoneAmong ls

  pub NoneGuarded : GuardedStatements → Type 0
  NoneGuarded no_guarded = Unit {0}
  NoneGuarded (more_guarded p e s bs) = NoBareWhile s × NoneGuarded bs

-- a `goto` of the archetype names one of its labels or Done, and each of its `while`s that no other label is above has a label; a macro has
-- neither labels nor `goto`s nor `while`s
pub record GotosKnown (b : Bound) (i : Instance) : Type 0 where
  pub body : (x : Name) → IsAmong x (gotos_among (labeled i.archetype.body)) → (x ≡ done) ⊎ IsAmong x (labels_among (labeled i.archetype.body))
  pub whiles : NoneAmong (labeled i.archetype.body)
  pub macros : AllByRecursion (λ m. (gotos_among (labeled m.body) ≡ []) × NoneAmong (labeled m.body)) b.spec.macros
  pub unlabelled : AreUnlabelled b.spec.macros
