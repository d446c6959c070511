-- How deep statements nest, with macros in the place of their calls.
use Rattle.std.specs.Prelude.{ℕ, suc, max, List, map, Option, unwrap_or}
use Rattle.pgo_base.specs.Lookup.{Name, find}
use Rattle.pgo_syntax.specs.Statement.{Statement, skip, assign, if_then, if_else, while_do, either_of, await_that, with_in, print_out, assert_that, go_to, call_macro, yield_as, block, Statements, no_statements, more_statements, LabeledStatements, no_labeled, more_labeled, GuardedStatements, no_guarded, more_guarded}
use Rattle.pgo_mpcal_read.specs.declared.depths.MacroDepth.{MacroDepth}

-- the depth of the body of the first macro of this name
abbrev pub first_depth : List MacroDepth → Name → Option ℕ
first_depth ms x = find x (map (λ m. (m.name, m.depth)) ms)

-- the same, 0 where there is none
abbrev pub depth_of : List MacroDepth → Name → ℕ
depth_of ms x = unwrap_or (first_depth ms x) 0

-- a block, `if`, `while`, `either` or `with` is one deeper than the deepest statement in it, and a macro's call is one
-- deeper than the macro's body, where the macro is one of these. An `if` that is the `else` of another is no deeper.
abbrev mutual
  pub depth : List MacroDepth → Statement → ℕ
  depth ms (skip p) = suc 0
  depth ms (assign p x) = suc 0
  depth ms (if_then p x) = suc (guarded_depth ms x)
  depth ms (if_else p x y) = suc (max (guarded_depth ms x) (depth ms y))
  depth ms (while_do p x y) = suc (depth ms y)
  depth ms (either_of p x) = suc (statements_depth ms x)
  depth ms (await_that p x) = suc 0
  depth ms (with_in p x y) = suc (depth ms y)
  depth ms (print_out p x) = suc 0
  depth ms (assert_that p x) = suc 0
  depth ms (go_to p x) = suc 0
  depth ms (call_macro p x y) = suc (depth_of ms x.name)
  depth ms (yield_as p x) = suc 0
  depth ms (block p x) = suc (labeled_depth ms x)

  pub statements_depth : List MacroDepth → Statements → ℕ
  statements_depth ms no_statements = 0
  statements_depth ms (more_statements s ss) = max (depth ms s) (statements_depth ms ss)

  pub labeled_depth : List MacroDepth → LabeledStatements → ℕ
  labeled_depth ms no_labeled = 0
  labeled_depth ms (more_labeled l s ss) = max (depth ms s) (labeled_depth ms ss)

  pub guarded_depth : List MacroDepth → GuardedStatements → ℕ
  guarded_depth ms no_guarded = 0
  guarded_depth ms (more_guarded p e s ss) = max (depth ms s) (guarded_depth ms ss)
