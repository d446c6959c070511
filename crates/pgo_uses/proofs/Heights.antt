-- The expressions among the pieces of an expression are less high than it is.
use Rattle.std.proofs.Common.{◌≡◌, ◌+◌, ◌<◌, ◌≤◌, ℕ, zero, suc, max, List, [], ◌∷◌, ◌++◌, map, length, get_or, arith}
use Rattle.pgo_base.specs.Lookup.{Name}
use Rattle.pgo_base.specs.Tree.{Tree, name, primed, number, text, truth, at, word, unary, binary, product, cond_of, case_of, case_other, let_in, quantified, choose, tuple, set_of, filter_of, image, fun_of, fun_set, record_of, record_set, except, index, field, call, unchanged, Trees, no_trees, more_trees, NamedTrees, no_named, more_named, TreePairs, no_arms, more_arms, BoundTrees, no_bound, more_bound, PathTrees, no_paths, more_paths}
use Rattle.pgo_base.specs.TreeSize.{height, trees_height, named_height, arms_height, bound_height, paths_height}
use Rattle.pgo_uses.specs.declared.pieces.Manner.{Manner}
use Rattle.pgo_uses.specs.declared.pieces.Manner.TheVariants.{Plain, Hidden}
use Rattle.pgo_uses.specs.declared.pieces.Piece.{Piece as Lent}
use Rattle.pgo_uses.specs.PieceView.{see}
use Rattle.pgo_uses.specs.Uses.{let_names, binder_names}
use Rattle.pgo_uses.specs.Pieces.{Piece, used, binds, operand, operands, field_pieces, arm_pieces, let_pieces, name_pieces, binder_pieces, bound_pieces, update_pieces, pieces_of}

abbrev pub piece_height : Piece → ℕ
piece_height (used x f) = 0
piece_height (binds x n) = 0
piece_height (operand t m n) = height t

abbrev pub pieces_height : List Piece → ℕ
pieces_height [] = 0
pieces_height (p ∷ ps) = max (piece_height p) (pieces_height ps)

heights-append : (xs ys : List Piece) → pieces_height (xs ++ ys) ≡ max (pieces_height xs) (pieces_height ys)
heights-append [] ys = omega arith
heights-append (x ∷ xs) ys = omega (arith, heights-append xs ys)

operands_low : (ts : Trees) → pieces_height (operands ts) ≤ trees_height ts
operands_low no_trees = omega arith
operands_low (more_trees t ts) = omega (arith, operands_low ts)

fields_low : (ds : NamedTrees) → pieces_height (field_pieces ds) ≤ named_height ds
fields_low no_named = omega arith
fields_low (more_named x t ds) = omega (arith, fields_low ds)

arms_low : (m : Manner) (gs : TreePairs) → pieces_height (arm_pieces m gs) ≤ arms_height gs
arms_low m no_arms = omega arith
arms_low m (more_arms p t gs) = omega (arith, arms_low Hidden gs)

let_low : (n : ℕ) (ds : NamedTrees) → pieces_height (let_pieces n ds) ≤ named_height ds
let_low n no_named = omega arith
let_low n (more_named x t ds) = omega (arith, let_low (suc n) ds)

names_low : (n : ℕ) (xs : List Name) → pieces_height (name_pieces n xs) ≤ 0
names_low n [] = omega arith
names_low n (x ∷ xs) = omega (arith, names_low (suc n) xs)

binders_low : (n : ℕ) (bs : BoundTrees) → pieces_height (binder_pieces n bs) ≤ bound_height bs
binders_low n no_bound = omega arith
binders_low n (more_bound xs r bs) =
    omega (arith, heights-append (name_pieces n xs) (operand r Plain 0 ∷ binder_pieces (length xs + n) bs), names_low n xs, binders_low (length xs + n) bs)

updates_low : (us : PathTrees) → pieces_height (update_pieces us) ≤ paths_height us
updates_low no_paths = omega arith
updates_low (more_paths ps t us) =
    omega (arith, heights-append (operands ps) (operand t Plain 0 ∷ update_pieces us), operands_low ps, updates_low us)

bound_low : (bs : BoundTrees) (t : Tree) → pieces_height (bound_pieces bs t) ≤ max (bound_height bs) (height t)
bound_low bs t = omega (arith, heights-append (binder_pieces 0 bs) (operand t Hidden (length (binder_names bs)) ∷ []), binders_low 0 bs)

below : (t : Tree) → pieces_height (pieces_of t) < height t
below (name x) = omega arith
below (primed x) = omega arith
below (number z) = omega arith
below (text s) = omega arith
below (truth b) = omega arith
below at = omega arith
below (word w) = omega arith
below (unary p a) = omega arith
below (binary p a b) = omega arith
below (product xs) = omega (arith, operands_low xs)
below (cond_of p a b) = omega arith
below (case_of gs) = omega (arith, arms_low Plain gs)
below (case_other gs e) = omega (arith, heights-append (arm_pieces Plain gs) (operand e Hidden 0 ∷ []), arms_low Plain gs)
below (let_in ds e) = omega (arith, heights-append (let_pieces 0 ds) (operand e Hidden (length (let_names ds)) ∷ []), let_low 0 ds)
below (quantified q bs p) = omega (arith, bound_low bs p)
below (choose x r p) = omega arith
below (tuple xs) = omega (arith, operands_low xs)
below (set_of xs) = omega (arith, operands_low xs)
below (filter_of x r p) = omega arith
below (image e x r) = omega arith
below (fun_of bs e) = omega (arith, bound_low bs e)
below (fun_set a b) = omega arith
below (record_of ds) = omega (arith, fields_low ds)
below (record_set ds) = omega (arith, fields_low ds)
below (except f us) = omega (arith, updates_low us)
below (index f xs) = omega (arith, operands_low xs)
below (field r x) = omega arith
below (call x xs) = omega (arith, operands_low xs)
below (unchanged xs) = omega arith

pub pieces_below : (xs ys : List Lent) (t : Tree) → xs ≡ ys → map see ys ≡ pieces_of t → pieces_height (map see xs) < height t
pieces_below xs ys t e h = rw (e, h) (below t)

pub at_height : (ps : List Lent) (i : ℕ) (p : Lent) → i < length ps → p ≡ get_or ps i p → piece_height (see p) ≤ pieces_height (map see ps)
at_height [] i p h e = absurd (omega arith)
at_height (q ∷ qs) zero p h e = rw e (omega arith)
at_height (q ∷ qs) (suc i) p h e = omega (arith, at_height qs i p (omega arith) e)
