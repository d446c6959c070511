-- The expressions among the pieces of an expression are less high than it is.
use Rattle.std.proofs.Common.{◌≡◌, ◌<◌, ◌≤◌, ℕ, zero, suc, max, Bool, true, false, List, [], ◌∷◌, ◌++◌, map, length, get_or, arith}
use Rattle.std.specs.Prelude.{codes, if◌then◌else◌}
use Rattle.pgo_base.specs.Data.{string}
use Rattle.pgo_base.specs.Lookup.{Name}
use Rattle.pgo_base.specs.Tree.{Tree, name, primed, number, text, truth, at, word, unary, binary, product, cond_of, case_of, case_other, let_in, quantified, choose, tuple, set_of, filter_of, image, fun_of, fun_set, record_of, record_set, except, index, field, call, unchanged, Trees, no_trees, more_trees, NamedTrees, no_named, more_named, TreePairs, no_arms, more_arms, BoundTrees, no_bound, more_bound, PathTrees, no_paths, more_paths}
use Rattle.pgo_base.specs.TreeSize.{height, trees_height, named_height, arms_height, bound_height, paths_height}
use Rattle.pgo_model.specs.ValueText.{is_field}
use Rattle.pgo_expr_write.specs.declared.parts.Part.{Part}
use Rattle.pgo_expr_write.specs.Parts.{see}
use Rattle.pgo_expr_write.specs.Pieces.{Piece, written, operand, piece_height, pieces_height, list_from, names_from, named_from, arms_from, binder_pieces, binders_from, bracketed, index_pieces, path_pieces, update_pieces, updates_from, pieces_of}

heights-append : (xs ys : List Piece) → pieces_height (xs ++ ys) ≡ max (pieces_height xs) (pieces_height ys)
heights-append [] ys = omega arith
heights-append (x ∷ xs) ys = omega (arith, heights-append xs ys)

list_low : (w : List ℕ) (n : ℕ) (ts : Trees) → pieces_height (list_from w n ts) ≤ trees_height ts
list_low w n no_trees = omega arith
list_low w zero (more_trees t ts) = omega (arith, list_low w 1 ts)
list_low w (suc n) (more_trees t ts) = omega (arith, list_low w (suc (suc n)) ts)

names_low : (n : ℕ) (xs : List Name) → pieces_height (names_from n xs) ≤ 0
names_low n [] = omega arith
names_low zero (x ∷ xs) = omega (arith, names_low 1 xs)
names_low (suc n) (x ∷ xs) = omega (arith, names_low (suc (suc n)) xs)

named_low : (sign w : List ℕ) (n : ℕ) (ts : NamedTrees) → pieces_height (named_from sign w n ts) ≤ named_height ts
named_low sign w n no_named = omega arith
named_low sign w zero (more_named x t ts) = omega (arith, named_low sign w 1 ts)
named_low sign w (suc n) (more_named x t ts) = omega (arith, named_low sign w (suc (suc n)) ts)

arms_low : (n : ℕ) (gs : TreePairs) → pieces_height (arms_from n gs) ≤ arms_height gs
arms_low n no_arms = omega arith
arms_low zero (more_arms g e hs) = omega (arith, arms_low 1 hs)
arms_low (suc n) (more_arms g e hs) = omega (arith, arms_low (suc (suc n)) hs)

binder_low : (xs : List Name) (r : Tree) → pieces_height (binder_pieces xs r) ≤ height r
binder_low xs r = omega (arith, heights-append (names_from 0 xs) (written (codes " \\in ") ∷ operand r ∷ []), names_low 0 xs)

binders_low : (n : ℕ) (bs : BoundTrees) → pieces_height (binders_from n bs) ≤ bound_height bs
binders_low n no_bound = omega arith
binders_low zero (more_bound xs r bs) = omega (arith, heights-append (binder_pieces xs r) (binders_from 1 bs), binder_low xs r, binders_low 1 bs)
binders_low (suc n) (more_bound xs r bs) =
    omega (arith, heights-append (binder_pieces xs r) (binders_from (suc (suc n)) bs), binder_low xs r, binders_low (suc (suc n)) bs)

string_low : (b : Bool) (s : List ℕ) → pieces_height (if b then written (codes ".") ∷ written s ∷ [] else bracketed (text s)) ≤ 1
string_low true s = omega arith
string_low false s = omega arith

index_low : (t : Tree) → pieces_height (index_pieces t) ≤ height t
index_low (text s) = string_low (is_field (string s)) s
index_low (name x) = omega arith
index_low (primed x) = omega arith
index_low (number z) = omega arith
index_low (truth b) = omega arith
index_low at = omega arith
index_low (word w) = omega arith
index_low (unary p a) = omega arith
index_low (binary p a b) = omega arith
index_low (product xs) = omega arith
index_low (cond_of p a b) = omega arith
index_low (case_of gs) = omega arith
index_low (case_other gs e) = omega arith
index_low (let_in ds e) = omega arith
index_low (quantified q bs p) = omega arith
index_low (choose x r p) = omega arith
index_low (tuple xs) = omega arith
index_low (set_of xs) = omega arith
index_low (filter_of x r p) = omega arith
index_low (image e x r) = omega arith
index_low (fun_of bs e) = omega arith
index_low (fun_set a b) = omega arith
index_low (record_of ds) = omega arith
index_low (record_set ds) = omega arith
index_low (except f us) = omega arith
index_low (index f xs) = omega arith
index_low (field r x) = omega arith
index_low (call x xs) = omega arith
index_low (unchanged xs) = omega arith

path_low : (ts : Trees) → pieces_height (path_pieces ts) ≤ trees_height ts
path_low no_trees = omega arith
path_low (more_trees t ts) = omega (arith, heights-append (index_pieces t) (path_pieces ts), index_low t, path_low ts)

update_low : (ps : Trees) (e : Tree) → pieces_height (update_pieces ps e) ≤ max (trees_height ps) (height e)
update_low ps e = omega (arith, heights-append (path_pieces ps) (written (codes " = ") ∷ operand e ∷ []), path_low ps)

updates_low : (n : ℕ) (us : PathTrees) → pieces_height (updates_from n us) ≤ paths_height us
updates_low n no_paths = omega arith
updates_low zero (more_paths ps e us) = omega (arith, heights-append (update_pieces ps e) (updates_from 1 us), update_low ps e, updates_low 1 us)
updates_low (suc n) (more_paths ps e us) =
    omega (arith, heights-append (update_pieces ps e) (updates_from (suc (suc n)) us), update_low ps e, updates_low (suc (suc n)) us)

below : (t : Tree) → pieces_height (pieces_of t) < height t
below (name x) = omega arith
below (primed x) = omega arith
below (number z) = omega arith
below (truth b) = omega arith
below at = omega arith
below (word w) = omega arith
below (unary p a) = omega arith
below (binary p a b) = omega arith
below (product xs) = omega (arith, list_low (codes " \\X ") 0 xs)
below (cond_of p a b) = omega arith
below (case_of gs) = omega (arith, arms_low 0 gs)
below (case_other gs e) = omega (arith, heights-append (arms_from 0 gs) (written (codes " [] OTHER -> ") ∷ operand e ∷ []), arms_low 0 gs)
below (let_in ds e) = omega (arith, heights-append (named_from (codes " == ") (codes " ") 0 ds) (written (codes " IN ") ∷ operand e ∷ []), named_low (codes " == ") (codes " ") 0 ds)
below (quantified q bs p) = omega (arith, heights-append (binders_from 0 bs) (written (codes " : ") ∷ operand p ∷ []), binders_low 0 bs)
below (choose x r p) = omega arith
below (tuple xs) = omega (arith, heights-append (list_from (codes ", ") 0 xs) (written (codes ">>") ∷ []), list_low (codes ", ") 0 xs)
below (set_of xs) = omega (arith, heights-append (list_from (codes ", ") 0 xs) (written (codes "}") ∷ []), list_low (codes ", ") 0 xs)
below (filter_of x r p) = omega arith
below (image e x r) = omega arith
below (fun_of bs e) = omega (arith, heights-append (binders_from 0 bs) (written (codes " |-> ") ∷ operand e ∷ written (codes "]") ∷ []), binders_low 0 bs)
below (fun_set a b) = omega arith
below (record_of ds) = omega (arith, heights-append (named_from (codes " |-> ") (codes ", ") 0 ds) (written (codes "]") ∷ []), named_low (codes " |-> ") (codes ", ") 0 ds)
below (record_set ds) = omega (arith, heights-append (named_from (codes " : ") (codes ", ") 0 ds) (written (codes "]") ∷ []), named_low (codes " : ") (codes ", ") 0 ds)
below (except f us) = omega (arith, heights-append (updates_from 0 us) (written (codes "]") ∷ []), updates_low 0 us)
below (index f xs) = omega (arith, heights-append (list_from (codes ", ") 0 xs) (written (codes "]") ∷ []), list_low (codes ", ") 0 xs)
below (field r x) = omega arith
below (call x xs) = omega (arith, heights-append (list_from (codes ", ") 0 xs) (written (codes ")") ∷ []), list_low (codes ", ") 0 xs)
below (unchanged xs) = omega (arith, heights-append (names_from 0 xs) (written (codes ">>") ∷ []), names_low 0 xs)
below (text s) = omega arith

pub parts_below : (xs ys : List Part) (t : Tree) → xs ≡ ys → map see ys ≡ pieces_of t → pieces_height (map see xs) < height t
parts_below xs ys t e h = rw (e, h) (below t)

pub at_height : (ps : List Part) (i : ℕ) (p : Part) → i < length ps → p ≡ get_or ps i p → piece_height (see p) ≤ pieces_height (map see ps)
at_height [] i p h e = absurd (omega arith)
at_height (q ∷ qs) zero p h e = rw e (omega arith)
at_height (q ∷ qs) (suc i) p h e = omega (arith, at_height qs i p (omega arith) e)
