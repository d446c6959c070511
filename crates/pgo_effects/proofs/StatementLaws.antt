-- The code of each form of a statement, with macros in the place of their calls.
use Rattle.std.proofs.Common.{◌≡◌, ℕ, List, map, ap, sym, ◌∙◌}
use Rattle.pgo_base.specs.Tree.{Tree}
use Rattle.pgo_syntax.specs.Statement.{Statement, skip, assign, if_then, if_else, while_do, either_of, await_that, print_out, assert_that, go_to, yield_as, block, Statements, LabeledStatements, GuardedStatements}
use Rattle.pgo_syntax.specs.declared.assignment.Assignment.{Assignment}
use Rattle.pgo_syntax.specs.declared.name.PlacedName.{PlacedName}
use Rattle.pgo_sections.specs.Access.{evaluated}
use Rattle.pgo_sections.specs.Code.{Code, Empty, Skip, Await, Assert, Print, Either, Goto, Yield}
use Rattle.pgo_meaning.specs.MacrosPlaced.{placed, placed_each, placed_among, placed_guarded}
use Rattle.pgo_meaning.specs.Statements.{Setting, label_of, assignment_code, code, branches, arms, in_order}
use Rattle.pgo_effects.specs.Around.{Surroundings, stands, stands_each, stands_among, stands_guarded, written_label}
use Rattle.pgo_effects.specs.Puts.{puts_tree, puts_assignment}
use Rattle.pgo_effects.proofs.PutLaws.{puts_skip, puts_assign, puts_if, puts_if_else, puts_either, puts_await, puts_print, puts_assert, puts_yield, puts_goto, puts_block}

module _ (s : Setting) (a : Surroundings) where
  abbrev pub above : List ℕ
  above = written_label s a.label

  abbrev pub meant : Statement → Code
  meant t = code s above (stands a t)

  pub skip_at : (x : Code) (t : Statement) (n : ℕ) → t ≡ skip n → x ≡ Skip → x ≡ meant t
  skip_at x t n et ex = ex ∙ ap (code s above) (sym (puts_skip a.layers n)) ∙ ap meant (sym et)

  pub assign_at : (x : Code) (t : Statement) (n : ℕ) (l m : List Assignment) → m ≡ l → t ≡ assign n l → x ≡ assignment_code s (map (puts_assignment a.layers) m) → x ≡ meant t
  assign_at x t n l m em et ex = ex ∙ ap (λ l. assignment_code s (map (puts_assignment a.layers) l)) em ∙ ap (code s above) (sym (puts_assign a.layers n l)) ∙ ap meant (sym et)

  pub if_at : (x : Code) (t : Statement) (n : ℕ) (l m : GuardedStatements) → m ≡ l → t ≡ if_then n l → x ≡ branches s above (stands_guarded a m) Empty → x ≡ meant t
  if_at x t n l m em et ex =
      ex ∙ ap (λ l. branches s above (stands_guarded a l) Empty) em ∙ ap (code s above) (sym (puts_if a.layers n (placed_guarded a.bodies l))) ∙ ap meant (sym et)

  pub if_else_at : (x : Code) (t : Statement) (n : ℕ) (l m : GuardedStatements) (o p : Statement) → m ≡ l → p ≡ o → t ≡ if_else n l o → x ≡ branches s above (stands_guarded a m) (meant p) → x ≡ meant t
  if_else_at x t n l m o p em eo et ex =
      ex ∙ (λ i. branches s above (stands_guarded a (em i)) (meant (eo i)))
      ∙ ap (code s above) (sym (puts_if_else a.layers n (placed_guarded a.bodies l) (placed a.bodies o))) ∙ ap meant (sym et)

  pub while_at : (x : Code) (t : Statement) (n : ℕ) (e g : Tree) (b c : Statement) → g ≡ e → c ≡ b → t ≡ while_do n e b → x ≡ meant (while_do n g c) → x ≡ meant t
  while_at x t n e g b c eg ec et ex = ex ∙ (λ i. meant (while_do n (eg i) (ec i))) ∙ ap meant (sym et)

  pub either_at : (x : Code) (t : Statement) (n : ℕ) (l m : Statements) → m ≡ l → t ≡ either_of n l → x ≡ Either (arms s above (stands_each a m)) → x ≡ meant t
  either_at x t n l m em et ex =
      ex ∙ ap (λ l. Either (arms s above (stands_each a l))) em ∙ ap (code s above) (sym (puts_either a.layers n (placed_each a.bodies l))) ∙ ap meant (sym et)

  pub await_at : (x : Code) (t : Statement) (n : ℕ) (e g : Tree) → g ≡ e → t ≡ await_that n e → x ≡ evaluated s.mapped (puts_tree a.layers g) 0 (λ e' k. Await e') → x ≡ meant t
  await_at x t n e g eg et ex =
      ex ∙ ap (λ e. evaluated s.mapped (puts_tree a.layers e) 0 (λ e' k. Await e')) eg ∙ ap (code s above) (sym (puts_await a.layers n e)) ∙ ap meant (sym et)

  pub print_at : (x : Code) (t : Statement) (n : ℕ) (e g : Tree) → g ≡ e → t ≡ print_out n e → x ≡ evaluated s.mapped (puts_tree a.layers g) 0 (λ e' k. Print e') → x ≡ meant t
  print_at x t n e g eg et ex =
      ex ∙ ap (λ e. evaluated s.mapped (puts_tree a.layers e) 0 (λ e' k. Print e')) eg ∙ ap (code s above) (sym (puts_print a.layers n e)) ∙ ap meant (sym et)

  pub assert_at : (x : Code) (t : Statement) (n : ℕ) (e g : Tree) → g ≡ e → t ≡ assert_that n e → x ≡ evaluated s.mapped (puts_tree a.layers g) 0 (λ e' k. Assert e') → x ≡ meant t
  assert_at x t n e g eg et ex =
      ex ∙ ap (λ e. evaluated s.mapped (puts_tree a.layers e) 0 (λ e' k. Assert e')) eg ∙ ap (code s above) (sym (puts_assert a.layers n e)) ∙ ap meant (sym et)

  pub yield_at : (x : Code) (t : Statement) (n : ℕ) (e g : Tree) → g ≡ e → t ≡ yield_as n e → x ≡ Yield (puts_tree a.layers g) → x ≡ meant t
  yield_at x t n e g eg et ex = ex ∙ ap (λ e. Yield (puts_tree a.layers e)) eg ∙ ap (code s above) (sym (puts_yield a.layers n e)) ∙ ap meant (sym et)

  pub goto_at : (x : Code) (t : Statement) (n : ℕ) (l : PlacedName) → t ≡ go_to n l → x ≡ Goto (label_of s.process l.name) → x ≡ meant t
  goto_at x t n l et ex = ex ∙ ap (code s above) (sym (puts_goto a.layers n l)) ∙ ap meant (sym et)

  pub with_same : (x : Code) (t u : Statement) → t ≡ u → x ≡ meant u → x ≡ meant t
  with_same x t u et ex = ex ∙ ap meant (sym et)

  pub block_at : (x : Code) (t : Statement) (n : ℕ) (l m : LabeledStatements) → m ≡ l → t ≡ block n l → x ≡ in_order s above (stands_among a m) → x ≡ meant t
  block_at x t n l m em et ex =
      ex ∙ ap (λ l. in_order s above (stands_among a l)) em ∙ ap (code s above) (sym (puts_block a.layers n (placed_among a.bodies l))) ∙ ap meant (sym et)
