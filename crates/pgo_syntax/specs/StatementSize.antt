-- How deep a statement nests.
use Rattle.std.specs.Prelude.{ℕ, suc, max}
use Rattle.pgo_syntax.specs.Statement.{Statement, skip, assign, if_then, if_else, while_do, either_of, await_that, with_in, print_out, assert_that, go_to, call_macro, yield_as, block, Statements, no_statements, more_statements, LabeledStatements, no_labeled, more_labeled, GuardedStatements, no_guarded, more_guarded}

abbrev mutual
  pub height : Statement → ℕ
  height (skip p) = suc 0
  height (assign p x) = suc 0
  height (if_then p x) = suc (guarded_height x)
  height (if_else p x y) = suc (max (guarded_height x) (height y))
  height (while_do p x y) = suc (height y)
  height (either_of p x) = suc (statements_height x)
  height (await_that p x) = suc 0
  height (with_in p x y) = suc (height y)
  height (print_out p x) = suc 0
  height (assert_that p x) = suc 0
  height (go_to p x) = suc 0
  height (call_macro p x y) = suc 0
  height (yield_as p x) = suc 0
  height (block p x) = suc (labeled_height x)

  pub statements_height : Statements → ℕ
  statements_height no_statements = 0
  statements_height (more_statements s ss) = max (height s) (statements_height ss)

  pub labeled_height : LabeledStatements → ℕ
  labeled_height no_labeled = 0
  labeled_height (more_labeled l s ss) = max (height s) (labeled_height ss)

  pub guarded_height : GuardedStatements → ℕ
  guarded_height no_guarded = 0
  guarded_height (more_guarded p e s ss) = max (height s) (guarded_height ss)
