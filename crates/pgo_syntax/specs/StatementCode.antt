-- Statements as trees of numbers, by which a proof tells them apart.
use Rattle.std.specs.Prelude.{◌≡◌, ℕ, cond, ◌==◌, List, Option, refl}
use Rattle.std.specs.Coded.{Coded}
use base.Stored.{Gv, gnil, gnum, gcons}
use Rattle.pgo_base.specs.Code.{num_of}
use Rattle.pgo_base.specs.Tree.{Tree}
use Rattle.pgo_syntax.specs.declared.name.PlacedName.{PlacedName}
use Rattle.pgo_syntax.specs.Statement.{Statement, skip, assign, if_then, if_else, while_do, either_of, await_that, with_in, print_out, assert_that, go_to, call_macro, yield_as, block, Statements, no_statements, more_statements, LabeledStatements, no_labeled, more_labeled, GuardedStatements, no_guarded, more_guarded}
use Rattle.pgo_syntax.specs.Packed.{Packed, packed_ℕ, packed_tree, packed_list, packed_option, packed×, coded_of}
use Rattle.pgo_syntax.specs.NameCode.{packed_placed_name}
use Rattle.pgo_syntax.specs.AssignmentCode.{packed_assignments}
use Rattle.pgo_syntax.specs.WithCode.{packed_with_names}

abbrev mutual
  pub statement_code : Statement → Gv
  statement_code (skip p) = gcons (gnum 0) (gcons (gnum p) (gcons gnil (gcons gnil gnil)))
  statement_code (assign p x) = gcons (gnum 1) (gcons (gnum p) (gcons (packed_assignments.pack x) (gcons gnil gnil)))
  statement_code (if_then p x) = gcons (gnum 2) (gcons (gnum p) (gcons (guarded_code x) (gcons gnil gnil)))
  statement_code (if_else p x y) = gcons (gnum 3) (gcons (gnum p) (gcons (guarded_code x) (gcons (statement_code y) gnil)))
  statement_code (while_do p x y) = gcons (gnum 4) (gcons (gnum p) (gcons (packed_tree.pack x) (gcons (statement_code y) gnil)))
  statement_code (either_of p x) = gcons (gnum 5) (gcons (gnum p) (gcons (statements_code x) (gcons gnil gnil)))
  statement_code (await_that p x) = gcons (gnum 6) (gcons (gnum p) (gcons (packed_tree.pack x) (gcons gnil gnil)))
  statement_code (with_in p x y) = gcons (gnum 7) (gcons (gnum p) (gcons (packed_with_names.pack x) (gcons (statement_code y) gnil)))
  statement_code (print_out p x) = gcons (gnum 8) (gcons (gnum p) (gcons (packed_tree.pack x) (gcons gnil gnil)))
  statement_code (assert_that p x) = gcons (gnum 9) (gcons (gnum p) (gcons (packed_tree.pack x) (gcons gnil gnil)))
  statement_code (go_to p x) = gcons (gnum 10) (gcons (gnum p) (gcons (packed_placed_name.pack x) (gcons gnil gnil)))
  statement_code (call_macro p x y) = gcons (gnum 11) (gcons (gnum p) (gcons (packed_placed_name.pack x) (gcons ((packed_list packed_tree).pack y) gnil)))
  statement_code (yield_as p x) = gcons (gnum 12) (gcons (gnum p) (gcons (packed_tree.pack x) (gcons gnil gnil)))
  statement_code (block p x) = gcons (gnum 13) (gcons (gnum p) (gcons (labeled_code x) (gcons gnil gnil)))

  pub statements_code : Statements → Gv
  statements_code no_statements = gnil
  statements_code (more_statements s ss) = gcons (statement_code s) (statements_code ss)

  pub labeled_code : LabeledStatements → Gv
  labeled_code no_labeled = gnil
  labeled_code (more_labeled l s ss) = gcons ((packed_option packed_placed_name).pack l) (gcons (statement_code s) (labeled_code ss))

  pub guarded_code : GuardedStatements → Gv
  guarded_code no_guarded = gnil
  guarded_code (more_guarded p e s ss) = gcons (gnum p) (gcons (packed_tree.pack e) (gcons (statement_code s) (guarded_code ss)))

-- one argument, read in every way
pub record Slot : Type 0 where
  pub raw : Gv
  pub one : Statement
  pub many : Statements
  pub labeled : LabeledStatements
  pub guarded : GuardedStatements

abbrev build : ℕ → ℕ → Slot → Slot → Slot → Statement
build n p x y z = cond (n == 0) (skip p) (cond (n == 1) (assign p (packed_assignments.unpack x.raw)) (cond (n == 2) (if_then p (x.guarded)) (cond (n == 3) (if_else p (x.guarded) (y.one)) (cond (n == 4) (while_do p (packed_tree.unpack x.raw) (y.one)) (cond (n == 5) (either_of p (x.many)) (cond (n == 6) (await_that p (packed_tree.unpack x.raw)) (cond (n == 7) (with_in p (packed_with_names.unpack x.raw) (y.one)) (cond (n == 8) (print_out p (packed_tree.unpack x.raw)) (cond (n == 9) (assert_that p (packed_tree.unpack x.raw)) (cond (n == 10) (go_to p (packed_placed_name.unpack x.raw)) (cond (n == 11) (call_macro p (packed_placed_name.unpack x.raw) ((packed_list packed_tree).unpack y.raw)) (cond (n == 12) (yield_as p (packed_tree.unpack x.raw)) (block p (x.labeled))))))))))))))

mutual
  pub statement_of : Gv → Statement
  statement_of (gcons k (gcons p (gcons a (gcons b c)))) = build (num_of k) (num_of p) (record { raw = a; one = statement_of a; many = statements_of a; labeled = labeled_of a; guarded = guarded_of a }) (record { raw = b; one = statement_of b; many = statements_of b; labeled = labeled_of b; guarded = guarded_of b }) (record { raw = c; one = statement_of c; many = statements_of c; labeled = labeled_of c; guarded = guarded_of c })
  statement_of _ = skip 0

  pub statements_of : Gv → Statements
  statements_of (gcons a b) = more_statements (statement_of a) (statements_of b)
  statements_of _ = no_statements

  pub labeled_of : Gv → LabeledStatements
  labeled_of (gcons a (gcons b c)) = more_labeled ((packed_option packed_placed_name).unpack a) (statement_of b) (labeled_of c)
  labeled_of _ = no_labeled

  pub guarded_of : Gv → GuardedStatements
  guarded_of (gcons a (gcons b (gcons c d))) = more_guarded (num_of a) (packed_tree.unpack b) (statement_of c) (guarded_of d)
  guarded_of _ = no_guarded

mutual
  unfolding statement_of statements_of labeled_of guarded_of

  pub statement_back : (s : Statement) → statement_of (statement_code s) ≡ s
  statement_back (skip p) = refl
  statement_back (assign p x) = λ i. assign p (packed_assignments.back x i)
  statement_back (if_then p x) = λ i. if_then p (guarded_back x i)
  statement_back (if_else p x y) = λ i. if_else p (guarded_back x i) (statement_back y i)
  statement_back (while_do p x y) = λ i. while_do p (packed_tree.back x i) (statement_back y i)
  statement_back (either_of p x) = λ i. either_of p (statements_back x i)
  statement_back (await_that p x) = λ i. await_that p (packed_tree.back x i)
  statement_back (with_in p x y) = λ i. with_in p (packed_with_names.back x i) (statement_back y i)
  statement_back (print_out p x) = λ i. print_out p (packed_tree.back x i)
  statement_back (assert_that p x) = λ i. assert_that p (packed_tree.back x i)
  statement_back (go_to p x) = λ i. go_to p (packed_placed_name.back x i)
  statement_back (call_macro p x y) = λ i. call_macro p (packed_placed_name.back x i) ((packed_list packed_tree).back y i)
  statement_back (yield_as p x) = λ i. yield_as p (packed_tree.back x i)
  statement_back (block p x) = λ i. block p (labeled_back x i)

  pub statements_back : (ss : Statements) → statements_of (statements_code ss) ≡ ss
  statements_back no_statements = refl
  statements_back (more_statements s ss) = λ i. more_statements (statement_back s i) (statements_back ss i)

  pub labeled_back : (ss : LabeledStatements) → labeled_of (labeled_code ss) ≡ ss
  labeled_back no_labeled = refl
  labeled_back (more_labeled l s ss) = λ i. more_labeled ((packed_option packed_placed_name).back l i) (statement_back s i) (labeled_back ss i)

  pub guarded_back : (ss : GuardedStatements) → guarded_of (guarded_code ss) ≡ ss
  guarded_back no_guarded = refl
  guarded_back (more_guarded p e s ss) = λ i. more_guarded p (packed_tree.back e i) (statement_back s i) (guarded_back ss i)

abbrev pub packed_statement : Packed Statement
packed_statement = record { pack = statement_code; unpack = statement_of; back = statement_back }

abbrev pub coded_statement : Coded Statement
coded_statement = coded_of packed_statement

abbrev pub coded_statements : Coded (List Statement)
coded_statements = coded_of (packed_list packed_statement)

abbrev pub packed_block : Packed (List (Option PlacedName × Statement))
packed_block = packed_list (packed× (packed_option packed_placed_name) packed_statement)

abbrev pub coded_block : Coded (List (Option PlacedName × Statement))
coded_block = coded_of packed_block

abbrev pub coded_branches : Coded (List (ℕ × (Tree × Statement)))
coded_branches = coded_of (packed_list (packed× packed_ℕ (packed× packed_tree packed_statement)))
