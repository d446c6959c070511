-- Sections between labels, worked out by hand.
use Rattle.std.specs.Prelude.{◌≡◌, ℕ, List, pos, [], ◌∷◌, Some, None, codes, refl}
use Rattle.pgo_base.specs.declared.expr.Infix.TheVariants as infixs
use Rattle.pgo_base.specs.Lookup.{Vars}
use Rattle.pgo_base.specs.Tree.{name, binary}
use Rattle.pgo_base.specs.declared.value.Value.TheVariants.{Int}
use Rattle.pgo_model.specs.Outcome.{Section}
use Rattle.pgo_model.specs.System.{Touched}
use Rattle.pgo_syntax.specs.Statement.{skip, assign, if_else, while_do, either_of, print_out, go_to, block, statements, labeled, guarded}
use Rattle.pgo_meaning.proofs.RowTools.{n, int, whole, at_label, ref, leads, placed_name, assignment, archetype, row_of}

-- a: if (v > 0) { v := 1; b: v := 2 } else { either { goto a } or { v := 3; d: skip; v := v + 1 } };
-- e: v := 9
abbrev branching : Vars → List ℕ → Section Touched Vars
branching s ws =
    row_of [] (codes "P") (archetype (codes "A") [] (((Some (placed_name (codes "a"))), (if_else 0 (guarded ((0, ((binary infixs.Greater (name (codes "v")) (n 0)), (block 0 (labeled ((None, (assign 0 ((assignment (codes "v") [] (n 1)) ∷ []))) ∷ ((Some (placed_name (codes "b"))), (assign 0 ((assignment (codes "v") [] (n 2)) ∷ []))) ∷ []))))) ∷ [])) (block 0 (labeled ((None, (either_of 0 (statements ((block 0 (labeled ((None, (go_to 0 (placed_name (codes "a")))) ∷ []))) ∷ (block 0 (labeled ((None, (assign 0 ((assignment (codes "v") [] (n 3)) ∷ []))) ∷ ((Some (placed_name (codes "d"))), (skip 0)) ∷ (None, (assign 0 ((assignment (codes "v") [] (binary infixs.Add (name (codes "v")) (n 1))) ∷ []))) ∷ []))) ∷ [])))) ∷ []))))) ∷ ((Some (placed_name (codes "e"))), (assign 0 ((assignment (codes "v") [] (n 9)) ∷ []))) ∷ [])) (ref (codes "v") (codes "x") ∷ []) ((codes "x") ∷ []) [] (Int (pos 1)) s ws

to_a_label_in_a_branch : branching ((codes "x", int 5) ∷ at_label (codes "P_a") ∷ []) []
    ≡ leads (whole (codes "x") ∷ whole (codes "x") ∷ []) ((codes "x", int 1) ∷ at_label (codes "P_b") ∷ []) []
to_a_label_in_a_branch = refl

goto_its_own_label : branching ((codes "x", int 0) ∷ at_label (codes "P_a") ∷ []) (0 ∷ [])
    ≡ leads (whole (codes "x") ∷ []) ((codes "x", int 0) ∷ at_label (codes "P_a") ∷ []) []
goto_its_own_label = refl

to_a_label_in_an_arm : branching ((codes "x", int 0) ∷ at_label (codes "P_a") ∷ []) (1 ∷ [])
    ≡ leads (whole (codes "x") ∷ whole (codes "x") ∷ []) ((codes "x", int 3) ∷ at_label (codes "P_d") ∷ []) []
to_a_label_in_an_arm = refl

from_a_label_in_a_branch : branching ((codes "x", int 1) ∷ at_label (codes "P_b") ∷ []) []
    ≡ leads (whole (codes "x") ∷ []) ((codes "x", int 2) ∷ at_label (codes "P_e") ∷ []) []
from_a_label_in_a_branch = refl

from_a_label_in_an_arm : branching ((codes "x", int 3) ∷ at_label (codes "P_d") ∷ []) (1 ∷ [])
    ≡ leads (whole (codes "x") ∷ whole (codes "x") ∷ []) ((codes "x", int 4) ∷ at_label (codes "P_e") ∷ []) []
from_a_label_in_an_arm = refl

to_the_end : branching ((codes "x", int 3) ∷ at_label (codes "P_e") ∷ []) (1 ∷ [])
    ≡ leads (whole (codes "x") ∷ []) ((codes "x", int 9) ∷ at_label (codes "Done") ∷ []) []
to_the_end = refl

-- o: while (v < 10) { v := v + 5; n: while (w < 2) w := w + 1; print w };
-- print 77
abbrev loops : Vars → List ℕ → Section Touched Vars
loops s ws =
    row_of [] (codes "P") (archetype (codes "A") [] (((Some (placed_name (codes "o"))), (while_do 0 (binary infixs.Less (name (codes "v")) (n 10)) (block 0 (labeled ((None, (assign 0 ((assignment (codes "v") [] (binary infixs.Add (name (codes "v")) (n 5))) ∷ []))) ∷ ((Some (placed_name (codes "n"))), (while_do 0 (binary infixs.Less (name (codes "w")) (n 2)) (assign 0 ((assignment (codes "w") [] (binary infixs.Add (name (codes "w")) (n 1))) ∷ [])))) ∷ (None, (print_out 0 (name (codes "w")))) ∷ []))))) ∷ (None, (print_out 0 (n 77))) ∷ [])) (ref (codes "v") (codes "x") ∷ ref (codes "w") (codes "y") ∷ []) ((codes "x") ∷ (codes "y") ∷ []) [] (Int (pos 1)) s ws

into_the_inner_loop : loops ((codes "x", int 0) ∷ (codes "y", int 0) ∷ at_label (codes "P_o") ∷ []) []
    ≡ leads (whole (codes "x") ∷ whole (codes "x") ∷ whole (codes "x") ∷ []) ((codes "x", int 5) ∷ (codes "y", int 0) ∷ at_label (codes "P_n") ∷ []) []
into_the_inner_loop = refl

around_the_inner_loop : loops ((codes "x", int 5) ∷ (codes "y", int 0) ∷ at_label (codes "P_n") ∷ []) []
    ≡ leads (whole (codes "y") ∷ whole (codes "y") ∷ whole (codes "y") ∷ []) ((codes "x", int 5) ∷ (codes "y", int 1) ∷ at_label (codes "P_n") ∷ []) []
around_the_inner_loop = refl

back_to_the_outer_loop : loops ((codes "x", int 5) ∷ (codes "y", int 2) ∷ at_label (codes "P_n") ∷ []) []
    ≡ leads (whole (codes "y") ∷ whole (codes "y") ∷ []) ((codes "x", int 5) ∷ (codes "y", int 2) ∷ at_label (codes "P_o") ∷ []) ((int 2) ∷ [])
back_to_the_outer_loop = refl

out_of_the_outer_loop : loops ((codes "x", int 50) ∷ (codes "y", int 2) ∷ at_label (codes "P_o") ∷ []) []
    ≡ leads (whole (codes "x") ∷ []) ((codes "x", int 50) ∷ (codes "y", int 2) ∷ at_label (codes "Done") ∷ []) ((int 77) ∷ [])
out_of_the_outer_loop = refl
