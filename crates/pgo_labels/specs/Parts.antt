-- The statements that stand directly in a statement, and what an item of the code is.
use Rattle.std.specs.Prelude.{List, [], ◌∷◌, ◌++◌, None}
use Rattle.pgo_syntax.specs.StatementView.{statement, labeled_pair}
use Rattle.pgo_syntax.specs.Statement.{Statement, skip, assign, if_then, if_else, while_do, either_of, await_that, with_in, print_out, assert_that, go_to, call_macro, yield_as, block, Statements, no_statements, more_statements, LabeledStatements, no_labeled, more_labeled, GuardedStatements, no_guarded, more_guarded}
use Rattle.pgo_labels.specs.declared.items.Item.{Item as Lent}
use Rattle.pgo_labels.specs.declared.items.Item.TheVariants.{Labeled, Alone}
use Rattle.pgo_labels.specs.Inside.{Item}

abbrev pub see : Lent → Item
see (Labeled l) = labeled_pair l.now
see (Alone s) = (None, statement s.now)

abbrev pub items : LabeledStatements → List Item
items no_labeled = []
items (more_labeled l s ss) = (l, s) ∷ items ss

abbrev pub alternative_items : Statements → List Item
alternative_items no_statements = []
alternative_items (more_statements s ss) = (None, s) ∷ alternative_items ss

abbrev pub branch_items : GuardedStatements → List Item
branch_items no_guarded = []
branch_items (more_guarded p e s ss) = (None, s) ∷ branch_items ss

abbrev pub parts : Statement → List Item
parts (skip p) = []
parts (assign p x) = []
parts (if_then p bs) = branch_items bs
parts (if_else p bs s) = branch_items bs ++ (None, s) ∷ []
parts (while_do p e s) = (None, s) ∷ []
parts (either_of p ss) = alternative_items ss
parts (await_that p e) = []
parts (with_in p ns s) = (None, s) ∷ []
parts (print_out p e) = []
parts (assert_that p e) = []
parts (go_to p l) = []
parts (call_macro p m es) = []
parts (yield_as p e) = []
parts (block p ls) = items ls
