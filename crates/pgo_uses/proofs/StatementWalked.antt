-- The names in the parts of a statement are the names in the statement.
use Rattle.std.proofs.Common.{◌≡◌, ℕ, suc, List, [], ◌∷◌, ◌++◌, map, length, refl, ap, sym, ◌∙◌, append_assoc}
use Rattle.std.specs.Prelude.{Option, Some, None}
use Rattle.std.proofs.lemmas.List.{append-nil}
use Rattle.pgo_base.specs.Tree.{Tree}
use Rattle.pgo_base.specs.Lookup.{Name}
use Rattle.pgo_syntax.specs.declared.name.PlacedName.{PlacedName}
use Rattle.pgo_syntax.specs.declared.assignment.Step.{Step}
use Rattle.pgo_syntax.specs.declared.assignment.Step.TheVariants.{Index, Field}
use Rattle.pgo_syntax.specs.declared.assignment.Assignment.{Assignment}
use Rattle.pgo_syntax.specs.declared.binding.WithName.{WithName}
use Rattle.pgo_syntax.specs.Statement.{Statement, skip, assign, if_then, if_else, while_do, either_of, await_that, with_in, print_out, assert_that, go_to, call_macro, yield_as, block, Statements, no_statements, more_statements, LabeledStatements, no_labeled, more_labeled, GuardedStatements, no_guarded, more_guarded}
use Rattle.pgo_uses.specs.declared.uses.Around.{Around}
use Rattle.pgo_uses.specs.declared.uses.Form.TheVariants as forms
use Rattle.pgo_uses.specs.declared.uses.Use.{Use}
use Rattle.pgo_uses.specs.declared.statement_pieces.Part.{Part as Lent}
use Rattle.pgo_uses.specs.StatementPieceView.{see_part}
use Rattle.pgo_uses.specs.Uses.{one, uses}
use Rattle.pgo_uses.specs.Pieces.{within}
use Rattle.pgo_uses.specs.StatementUses.{at_place, as_passed, placed, shape_of, path_uses, assignment_uses, origin_tree, with_uses, with_names, argument_uses, label_uses, statement_uses, uses_of_alternatives, uses_of_block, uses_of_branches}
use Rattle.pgo_uses.specs.StatementPieces.{Part, operand, nested, path_parts, assignment_parts, with_parts, argument_parts, label_parts, alternative_parts, block_parts, branch_parts, bound_in, parts_of, part_uses, parts_uses}
use Rattle.pgo_uses.proofs.Walked.{within_at, within_all, one_longer, more_scope}

parts-append : (ns bs : List Name) (a : Around) (xs ys : List Part) → parts_uses ns bs a (xs ++ ys) ≡ parts_uses ns bs a xs ++ parts_uses ns bs a ys
parts-append ns bs a [] ys = refl
parts-append ns bs a (x ∷ xs) ys = ap (λ l. part_uses ns bs a x ++ l) (parts-append ns bs a xs ys) ∙ sym (append_assoc (part_uses ns bs a x) (parts_uses ns bs a xs) (parts_uses ns bs a ys))

path_run : (ns bs : List Name) (a : Around) (p : ℕ) (ss : List Step) → parts_uses ns bs a (path_parts p ss) ≡ path_uses ns (at_place p a) ss
path_run ns bs a p [] = refl
path_run ns bs a p (Index i ∷ ss) = ap (λ l. uses ns (at_place p a) i ++ l) (path_run ns bs a p ss)
path_run ns bs a p (Field f ∷ ss) = ap (λ l. one ns (at_place p a) f forms.Field ++ l) (path_run ns bs a p ss)

four : (w x y z : List Use) → w ++ (x ++ (y ++ z)) ≡ w ++ x ++ y ++ z
four w x y z = sym (append_assoc w x (y ++ z)) ∙ sym (append_assoc (w ++ x) y z)

assignments_run : (ns bs : List Name) (a : Around) (ss : List Assignment) → parts_uses ns bs a (assignment_parts ss) ≡ assignment_uses ns a ss
assignments_run ns bs a [] = refl
assignments_run ns bs a (s ∷ ss) =
    let p = s.left.name.place in
    let left = placed ns a s.left.name (forms.Assigned (shape_of s.left.path)) in
    let right = uses ns (at_place p a) s.right in
    ap (λ l. left ++ l)
    (parts-append ns bs a (path_parts p s.left.path) (operand p s.right 0 ∷ assignment_parts ss)
    ∙ (λ i. path_run ns bs a p s.left.path i ++ (right ++ assignments_run ns bs a ss i)))
    ∙ four left (path_uses ns (at_place p a) s.left.path) right (assignment_uses ns a ss)

with_run : (ns bs ms pre rest : List Name) (ws : List WithName) (a : Around) (n : ℕ) → bs ≡ pre ++ (with_names ws ++ rest) → n ≡ length pre → ms ≡ ns ++ pre → parts_uses ns bs a (with_parts n ws) ≡ with_uses ms a ws
with_run ns bs ms pre rest [] a n e k m = refl
with_run ns bs ms pre rest (w ∷ ws) a n e k m =
    let x = w.name.name in
    let here : within ns bs n ≡ ms = within_at ns bs ms pre (x ∷ (with_names ws ++ rest)) n e k m in
    let more : parts_uses ns bs a (with_parts (suc n) ws) ≡ with_uses (ms ++ x ∷ []) a ws =
    with_run ns bs (ms ++ x ∷ []) (pre ++ x ∷ []) rest ws a (suc n) (e ∙ sym (append_assoc pre (x ∷ []) (with_names ws ++ rest))) (one_longer n pre x k) (more_scope ns ms pre (x ∷ []) m) in
    (λ i. placed (here i) a w.name forms.Named ++ (uses (here i) (at_place w.name.place a) (origin_tree w.origin) ++ more i))

arguments_run : (ns bs : List Name) (a : Around) (p : ℕ) (ts : List Tree) → parts_uses ns bs a (argument_parts p ts) ≡ argument_uses ns (as_passed (at_place p a)) ts
arguments_run ns bs a p [] = refl
arguments_run ns bs a p (t ∷ ts) = ap (λ l. uses ns (as_passed (at_place p a)) t ++ l) (arguments_run ns bs a p ts)

alternatives_run : (ns bs : List Name) (a : Around) (ss : Statements) → parts_uses ns bs a (alternative_parts ss) ≡ uses_of_alternatives ns a ss
alternatives_run ns bs a no_statements = refl
alternatives_run ns bs a (more_statements s ss) = ap (λ l. statement_uses ns a s ++ l) (alternatives_run ns bs a ss)

label_run : (ns bs : List Name) (a : Around) (l : Option PlacedName) → parts_uses ns bs a (label_parts l) ≡ label_uses ns a l
label_run ns bs a None = refl
label_run ns bs a (Some l) = refl

block_run : (ns bs : List Name) (a : Around) (ss : LabeledStatements) → parts_uses ns bs a (block_parts ss) ≡ uses_of_block ns a ss
block_run ns bs a no_labeled = refl
block_run ns bs a (more_labeled l s ss) =
    parts-append ns bs a (label_parts l) (nested s 0 ∷ block_parts ss)
    ∙ (λ i. label_run ns bs a l i ++ (statement_uses ns a s ++ block_run ns bs a ss i))
    ∙ sym (append_assoc (label_uses ns a l) (statement_uses ns a s) (uses_of_block ns a ss))

branches_run : (ns bs : List Name) (a : Around) (gs : GuardedStatements) → parts_uses ns bs a (branch_parts gs) ≡ uses_of_branches ns a gs
branches_run ns bs a no_guarded = refl
branches_run ns bs a (more_guarded p e s gs) =
    (λ i. uses ns (at_place p a) e ++ (statement_uses ns a s ++ branches_run ns bs a gs i))
    ∙ sym (append_assoc (uses ns (at_place p a) e) (statement_uses ns a s) (uses_of_branches ns a gs))

two : (x y : List Use) → x ++ (y ++ []) ≡ x ++ y
two x y = ap (λ l. x ++ l) (append-nil y)

walked : (ns : List Name) (a : Around) (s : Statement) → parts_uses ns (bound_in s) a (parts_of s) ≡ statement_uses ns a s
walked ns a (skip p) = refl
walked ns a (assign p ss) = assignments_run ns [] a ss
walked ns a (if_then p gs) = branches_run ns [] a gs
walked ns a (if_else p gs s) =
    parts-append ns [] a (branch_parts gs) (nested s 0 ∷ [])
    ∙ (λ i. branches_run ns [] a gs i ++ append-nil (statement_uses ns a s) i)
walked ns a (while_do p e s) = two (uses ns (at_place p a) e) (statement_uses ns a s)
walked ns a (either_of p ss) = alternatives_run ns [] a ss
walked ns a (await_that p e) = append-nil (uses ns (at_place p a) e)
walked ns a (with_in p ws s) =
    let all = with_names ws in
    parts-append ns all a (with_parts 0 ws) (nested s (length all) ∷ [])
    ∙ (λ i. with_run ns all ns [] [] ws a 0 (sym (append-nil all)) refl (sym (append-nil ns)) i ++ (statement_uses (within_all ns all i) a s ++ []))
    ∙ two (with_uses ns a ws) (statement_uses (ns ++ all) a s)
walked ns a (print_out p e) = append-nil (uses ns (at_place p a) e)
walked ns a (assert_that p e) = append-nil (uses ns (at_place p a) e)
walked ns a (go_to p l) = refl
walked ns a (call_macro p m ts) = ap (λ l. placed ns a m (forms.Called ts) ++ l) (arguments_run ns [] a m.place ts)
walked ns a (yield_as p e) = append-nil (uses ns (at_place p a) e)
walked ns a (block p ss) = block_run ns [] a ss

pub all_walked : (ns : List Name) (a : Around) (s : Statement) (xs ys : List Lent) (bs : List Name) → xs ≡ ys → map see_part ys ≡ parts_of s → bs ≡ bound_in s → parts_uses ns bs a (map see_part xs) ≡ statement_uses ns a s
all_walked ns a s xs ys bs e f h =
    (λ i. parts_uses ns bs a (map see_part (e i))) ∙ (λ i. parts_uses ns (h i) a (f i)) ∙ walked ns a s
