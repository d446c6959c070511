-- The statements among the parts of a statement are less deep than it is.
use Rattle.std.proofs.Common.{◌≡◌, ◌<◌, ◌≤◌, ℕ, zero, suc, max, List, [], ◌∷◌, ◌++◌, map, length, get_or, arith}
use Rattle.std.specs.Prelude.{Option, Some, None}
use Rattle.pgo_base.specs.Tree.{Tree}
use Rattle.pgo_syntax.specs.declared.name.PlacedName.{PlacedName}
use Rattle.pgo_syntax.specs.declared.assignment.Step.{Step}
use Rattle.pgo_syntax.specs.declared.assignment.Step.TheVariants.{Index, Field}
use Rattle.pgo_syntax.specs.declared.assignment.Assignment.{Assignment}
use Rattle.pgo_syntax.specs.declared.binding.WithName.{WithName}
use Rattle.pgo_syntax.specs.Statement.{Statement, skip, assign, if_then, if_else, while_do, either_of, await_that, with_in, print_out, assert_that, go_to, call_macro, yield_as, block, Statements, no_statements, more_statements, LabeledStatements, no_labeled, more_labeled, GuardedStatements, no_guarded, more_guarded}
use Rattle.pgo_syntax.specs.StatementSize.{height, statements_height, labeled_height, guarded_height}
use Rattle.pgo_uses.specs.declared.statement_pieces.Part.{Part as Lent}
use Rattle.pgo_uses.specs.StatementPieceView.{see_part}
use Rattle.pgo_uses.specs.StatementUses.{with_names}
use Rattle.pgo_uses.specs.StatementPieces.{Part, named, operand, argument, nested, path_parts, assignment_parts, with_parts, argument_parts, label_parts, alternative_parts, block_parts, branch_parts, parts_of}

abbrev pub part_height : Part → ℕ
part_height (named p x f n) = 0
part_height (operand p t n) = 0
part_height (argument p t) = 0
part_height (nested s n) = height s

abbrev pub parts_height : List Part → ℕ
parts_height [] = 0
parts_height (p ∷ ps) = max (part_height p) (parts_height ps)

heights-append : (xs ys : List Part) → parts_height (xs ++ ys) ≡ max (parts_height xs) (parts_height ys)
heights-append [] ys = omega arith
heights-append (x ∷ xs) ys = omega (arith, heights-append xs ys)

path_low : (p : ℕ) (ss : List Step) → parts_height (path_parts p ss) ≤ 0
path_low p [] = omega arith
path_low p (Index i ∷ ss) = omega (arith, path_low p ss)
path_low p (Field f ∷ ss) = omega (arith, path_low p ss)

assignments_low : (ss : List Assignment) → parts_height (assignment_parts ss) ≤ 0
assignments_low [] = omega arith
assignments_low (s ∷ ss) =
    omega (arith, heights-append (path_parts s.left.name.place s.left.path) (operand s.left.name.place s.right 0 ∷ assignment_parts ss), path_low s.left.name.place s.left.path, assignments_low ss)

with_low : (n : ℕ) (ws : List WithName) → parts_height (with_parts n ws) ≤ 0
with_low n [] = omega arith
with_low n (w ∷ ws) = omega (arith, with_low (suc n) ws)

arguments_low : (p : ℕ) (ts : List Tree) → parts_height (argument_parts p ts) ≤ 0
arguments_low p [] = omega arith
arguments_low p (t ∷ ts) = omega (arith, arguments_low p ts)

alternatives_low : (ss : Statements) → parts_height (alternative_parts ss) ≤ statements_height ss
alternatives_low no_statements = omega arith
alternatives_low (more_statements s ss) = omega (arith, alternatives_low ss)

label_low : (l : Option PlacedName) → parts_height (label_parts l) ≤ 0
label_low None = omega arith
label_low (Some l) = omega arith

block_low : (ss : LabeledStatements) → parts_height (block_parts ss) ≤ labeled_height ss
block_low no_labeled = omega arith
block_low (more_labeled l s ss) = omega (arith, heights-append (label_parts l) (nested s 0 ∷ block_parts ss), label_low l, block_low ss)

branches_low : (bs : GuardedStatements) → parts_height (branch_parts bs) ≤ guarded_height bs
branches_low no_guarded = omega arith
branches_low (more_guarded p e s bs) = omega (arith, branches_low bs)

below : (s : Statement) → parts_height (parts_of s) < height s
below (skip p) = omega arith
below (assign p ss) = omega (arith, assignments_low ss)
below (if_then p bs) = omega (arith, branches_low bs)
below (if_else p bs s) = omega (arith, heights-append (branch_parts bs) (nested s 0 ∷ []), branches_low bs)
below (while_do p e s) = omega arith
below (either_of p ss) = omega (arith, alternatives_low ss)
below (await_that p e) = omega arith
below (with_in p ws s) = omega (arith, heights-append (with_parts 0 ws) (nested s (length (with_names ws)) ∷ []), with_low 0 ws)
below (print_out p e) = omega arith
below (assert_that p e) = omega arith
below (go_to p l) = omega arith
below (call_macro p m ts) = omega (arith, arguments_low m.place ts)
below (yield_as p e) = omega arith
below (block p ss) = omega (arith, block_low ss)

pub parts_below : (xs ys : List Lent) (s : Statement) → xs ≡ ys → map see_part ys ≡ parts_of s → parts_height (map see_part xs) < height s
parts_below xs ys s e h = rw (e, h) (below s)

pub at_height : (ps : List Lent) (i : ℕ) (p : Lent) → i < length ps → p ≡ get_or ps i p → part_height (see_part p) ≤ parts_height (map see_part ps)
at_height [] i p h e = absurd (omega arith)
at_height (q ∷ qs) zero p h e = rw e (omega arith)
at_height (q ∷ qs) (suc i) p h e = omega (arith, at_height qs i p (omega arith) e)
