-- The parts of a statement nest less deep, and what is within it is they and what is within them.
use Rattle.std.proofs.Common.{◌≡◌, ◌<◌, ◌≤◌, ℕ, zero, suc, max, List, [], ◌∷◌, ◌++◌, map, length, get_or, ap, ◌∙◌, sym, refl, append_assoc, arith}
use Rattle.std.proofs.lemmas.List.{append-nil}
use Rattle.std.specs.Prelude.{None}
use Rattle.pgo_syntax.specs.Statement.{Statement, skip, assign, if_then, if_else, while_do, either_of, await_that, with_in, print_out, assert_that, go_to, call_macro, yield_as, block, Statements, no_statements, more_statements, LabeledStatements, no_labeled, more_labeled, GuardedStatements, no_guarded, more_guarded}
use Rattle.pgo_syntax.specs.StatementSize.{height, statements_height, labeled_height, guarded_height}
use Rattle.pgo_labels.specs.declared.items.Item.{Item as Lent}
use Rattle.pgo_labels.specs.Inside.{Item, inside, inside_all, inside_labeled, inside_guarded, with_inside}
use Rattle.pgo_labels.specs.Parts.{see, items, alternative_items, branch_items, parts}

abbrev pub heights : List Item → ℕ
heights [] = 0
heights (i ∷ is) = max (height i.1) (heights is)

heights-append : (is js : List Item) → heights (is ++ js) ≡ max (heights is) (heights js)
heights-append [] js = omega arith
heights-append (i ∷ is) js = omega (arith, heights-append is js)

labeled_low : (ls : LabeledStatements) → heights (items ls) ≤ labeled_height ls
labeled_low no_labeled = omega arith
labeled_low (more_labeled l s ss) = omega (arith, labeled_low ss)

all_low : (ss : Statements) → heights (alternative_items ss) ≤ statements_height ss
all_low no_statements = omega arith
all_low (more_statements s ss) = omega (arith, all_low ss)

guarded_low : (bs : GuardedStatements) → heights (branch_items bs) ≤ guarded_height bs
guarded_low no_guarded = omega arith
guarded_low (more_guarded p e s ss) = omega (arith, guarded_low ss)

pub parts_low : (s : Statement) → heights (parts s) < height s
parts_low (skip p) = omega arith
parts_low (assign p x) = omega arith
parts_low (if_then p bs) = omega (arith, guarded_low bs)
parts_low (if_else p bs s) = omega (arith, guarded_low bs, heights-append (branch_items bs) ((None, s) ∷ []))
parts_low (while_do p e s) = omega arith
parts_low (either_of p ss) = omega (arith, all_low ss)
parts_low (await_that p e) = omega arith
parts_low (with_in p ns s) = omega arith
parts_low (print_out p e) = omega arith
parts_low (assert_that p e) = omega arith
parts_low (go_to p l) = omega arith
parts_low (call_macro p m es) = omega arith
parts_low (yield_as p e) = omega arith
parts_low (block p ls) = omega (arith, labeled_low ls)

pub at_height : (ls : List Lent) (i : ℕ) (l : Lent) → i < length ls → l ≡ get_or ls i l → height (see l).1 ≤ heights (map see ls)
at_height [] i l h e = absurd (omega arith)
at_height (k ∷ ls) zero l h e = rw e (omega arith)
at_height (k ∷ ls) (suc i) l h e = omega (arith, at_height ls i l (omega arith) e)

pub with_inside-append : (is js : List Item) → with_inside (is ++ js) ≡ with_inside is ++ with_inside js
with_inside-append [] js = refl
with_inside-append (i ∷ is) js = ap (λ r. i ∷ (inside i.1 ++ r)) (with_inside-append is js) ∙ ap (λ r. i ∷ r) (sym (append_assoc (inside i.1) (with_inside is) (with_inside js)))

labeled_inside : (ls : LabeledStatements) → with_inside (items ls) ≡ inside_labeled ls
labeled_inside no_labeled = refl
labeled_inside (more_labeled l s ss) = ap (λ r. (l, s) ∷ (inside s ++ r)) (labeled_inside ss)

all_inside : (ss : Statements) → with_inside (alternative_items ss) ≡ inside_all ss
all_inside no_statements = refl
all_inside (more_statements s ss) = ap (λ r. (None, s) ∷ (inside s ++ r)) (all_inside ss)

guarded_inside : (bs : GuardedStatements) → with_inside (branch_items bs) ≡ inside_guarded bs
guarded_inside no_guarded = refl
guarded_inside (more_guarded p e s ss) = ap (λ r. (None, s) ∷ (inside s ++ r)) (guarded_inside ss)

alone_inside : (s : Statement) → with_inside ((None, s) ∷ []) ≡ (None, s) ∷ inside s
alone_inside s = ap (λ r. (None, s) ∷ r) (append-nil (inside s))

pub parts_inside : (s : Statement) → with_inside (parts s) ≡ inside s
parts_inside (skip p) = refl
parts_inside (assign p x) = refl
parts_inside (if_then p bs) = guarded_inside bs
parts_inside (if_else p bs s) =
    with_inside-append (branch_items bs) ((None, s) ∷ []) ∙ ap (λ r. r ++ with_inside ((None, s) ∷ [])) (guarded_inside bs) ∙ ap (λ r. inside_guarded bs ++ r) (alone_inside s)
parts_inside (while_do p e s) = alone_inside s
parts_inside (either_of p ss) = all_inside ss
parts_inside (await_that p e) = refl
parts_inside (with_in p ns s) = alone_inside s
parts_inside (print_out p e) = refl
parts_inside (assert_that p e) = refl
parts_inside (go_to p l) = refl
parts_inside (call_macro p m es) = refl
parts_inside (yield_as p e) = refl
parts_inside (block p ls) = labeled_inside ls

pub list_low : (ls ks : List Lent) (s : Statement) → ls ≡ ks → map see ks ≡ parts s → heights (map see ls) < height s
list_low ls ks s e h = rw (e, h) (parts_low s)

pub list_inside : (ls ks : List Lent) (s : Statement) → ls ≡ ks → map see ks ≡ parts s → with_inside (map see ls) ≡ inside s
list_inside ls ks s e h = rw (e, h) (parts_inside s)
