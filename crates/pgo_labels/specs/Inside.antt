-- The statements that stand in a statement.
use Rattle.std.specs.Prelude.{List, [], ◌∷◌, ◌++◌, Option, None}
use Rattle.pgo_syntax.specs.declared.name.PlacedName.{PlacedName}
use Rattle.pgo_syntax.specs.Statement.{Statement, skip, assign, if_then, if_else, while_do, either_of, await_that, with_in, print_out, assert_that, go_to, call_macro, yield_as, block, Statements, no_statements, more_statements, LabeledStatements, no_labeled, more_labeled, GuardedStatements, no_guarded, more_guarded}

-- a statement, with its label if it has one
abbrev pub Item : Type 0
Item = Option PlacedName × Statement

abbrev mutual
  -- the statements within this one at any depth, in the order of the text; itself is left out
  pub inside : Statement → List Item
  inside (skip p) = []
  inside (assign p x) = []
  inside (if_then p bs) = inside_guarded bs
  inside (if_else p bs s) = inside_guarded bs ++ (None, s) ∷ inside s
  inside (while_do p e s) = (None, s) ∷ inside s
  inside (either_of p ss) = inside_all ss
  inside (await_that p e) = []
  inside (with_in p ns s) = (None, s) ∷ inside s
  inside (print_out p e) = []
  inside (assert_that p e) = []
  inside (go_to p l) = []
  inside (call_macro p m es) = []
  inside (yield_as p e) = []
  inside (block p ls) = inside_labeled ls

  pub inside_all : Statements → List Item
  inside_all no_statements = []
  inside_all (more_statements s ss) = (None, s) ∷ (inside s ++ inside_all ss)

  pub inside_labeled : LabeledStatements → List Item
  inside_labeled no_labeled = []
  inside_labeled (more_labeled l s ss) = (l, s) ∷ (inside s ++ inside_labeled ss)

  pub inside_guarded : GuardedStatements → List Item
  inside_guarded no_guarded = []
  inside_guarded (more_guarded p e s ss) = (None, s) ∷ (inside s ++ inside_guarded ss)

-- statements, each with those within it
abbrev pub with_inside : List Item → List Item
with_inside [] = []
with_inside (i ∷ is) = i ∷ (inside i.1 ++ with_inside is)
