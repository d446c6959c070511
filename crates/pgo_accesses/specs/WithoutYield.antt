-- Statements in which no `yield` stands.
use Rattle.pgo_syntax.specs.Statement.{Statement, skip, assign, if_then, if_else, while_do, either_of, await_that, with_in, print_out, assert_that, go_to, call_macro, yield_as, block, Statements, no_statements, more_statements, LabeledStatements, no_labeled, more_labeled, GuardedStatements, no_guarded, more_guarded}

abbrev mutual
  pub WithoutYield : Statement → Type 0
  WithoutYield (skip p) = Unit {0}
  WithoutYield (assign p as') = Unit {0}
  WithoutYield (if_then p bs) = GuardedWithout bs
  WithoutYield (if_else p bs s) = GuardedWithout bs × WithoutYield s
  WithoutYield (while_do p e s) = WithoutYield s
  WithoutYield (either_of p ss) = EachWithout ss
  WithoutYield (await_that p e) = Unit {0}
  WithoutYield (with_in p ws s) = WithoutYield s
  WithoutYield (print_out p e) = Unit {0}
  WithoutYield (assert_that p e) = Unit {0}
  WithoutYield (go_to p l) = Unit {0}
  WithoutYield (call_macro p m es) = Unit {0}
  WithoutYield (yield_as p e) = ⊥
  WithoutYield (block p ls) = LabeledWithout ls

  pub EachWithout : Statements → Type 0
  EachWithout no_statements = Unit {0}
  EachWithout (more_statements s ss) = WithoutYield s × EachWithout ss

  pub LabeledWithout : LabeledStatements → Type 0
  LabeledWithout no_labeled = Unit {0}
  LabeledWithout (more_labeled l s ls) = WithoutYield s × LabeledWithout ls

  pub GuardedWithout : GuardedStatements → Type 0
  GuardedWithout no_guarded = Unit {0}
  GuardedWithout (more_guarded p e s bs) = WithoutYield s × GuardedWithout bs
