-- The canonical text of an expression as a list of pieces, in the shape of the code.
use Rattle.std.specs.Prelude.{ℕ, zero, suc, max, Bool, true, false, if◌then◌else◌, List, [], ◌∷◌, ◌++◌, codes}
use Rattle.std.specs.Fmt.{signed_decimal}
use Rattle.pgo_base.specs.Data.{string}
use Rattle.pgo_base.specs.Lookup.{Name}
use Rattle.pgo_base.specs.Tree.{Tree, name, primed, number, text, truth, at, word, unary, binary, product, cond_of, case_of, case_other, let_in, quantified, choose, tuple, set_of, filter_of, image, fun_of, fun_set, record_of, record_set, except, index, field, call, unchanged, Trees, no_trees, more_trees, NamedTrees, no_named, more_named, TreePairs, no_arms, more_arms, BoundTrees, no_bound, more_bound, PathTrees, no_paths, more_paths}
use Rattle.pgo_base.specs.TreeSize.{height}
use Rattle.pgo_model.specs.ValueText.{string_text, truth_text, is_field}
use Rattle.pgo_model.specs.ExprText.{prefix_text, infix_text, quantifier_text, word_text, expr_text}

-- bytes, or an expression that stands in `( )` where it is an application or an open form
pub data Piece : Type 0 where
  written : List ℕ → Piece
  operand : Tree → Piece

abbrev pub piece_text : Piece → List ℕ
piece_text (written b) = b
piece_text (operand t) = expr_text false t

abbrev pub pieces_text : List Piece → List ℕ
pieces_text [] = []
pieces_text (p ∷ ps) = piece_text p ++ pieces_text ps

-- how high the highest expression is
abbrev pub piece_height : Piece → ℕ
piece_height (written b) = 0
piece_height (operand t) = height t

abbrev pub pieces_height : List Piece → ℕ
pieces_height [] = 0
pieces_height (p ∷ ps) = max (piece_height p) (pieces_height ps)

-- an application or an open form
abbrev pub is_enclosed : Tree → Bool
is_enclosed (unary p a) = true
is_enclosed (binary p a b) = true
is_enclosed (product ts) = true
is_enclosed (cond_of p a b) = true
is_enclosed (case_of gs) = true
is_enclosed (case_other gs e) = true
is_enclosed (let_in ds e) = true
is_enclosed (quantified q bs p) = true
is_enclosed (choose x r p) = true
is_enclosed t = false

-- the word before the part at this place of a list
abbrev pub before : List ℕ → ℕ → List Piece
before w zero = []
before w (suc n) = written w ∷ []

abbrev pub list_from : List ℕ → ℕ → Trees → List Piece
list_from w n no_trees = []
list_from w n (more_trees t ts) = before w n ++ (operand t ∷ list_from w (suc n) ts)

abbrev pub names_from : ℕ → List Name → List Piece
names_from n [] = []
names_from n (x ∷ xs) = before (codes ", ") n ++ (written x ∷ names_from (suc n) xs)

abbrev pub named_from : List ℕ → List ℕ → ℕ → NamedTrees → List Piece
named_from sign w n no_named = []
named_from sign w n (more_named x t ts) = before w n ++ (written x ∷ written sign ∷ operand t ∷ named_from sign w (suc n) ts)

abbrev pub arms_from : ℕ → TreePairs → List Piece
arms_from n no_arms = []
arms_from n (more_arms g e hs) = before (codes " [] ") n ++ (operand g ∷ written (codes " -> ") ∷ operand e ∷ arms_from (suc n) hs)

abbrev pub binder_pieces : List Name → Tree → List Piece
binder_pieces xs r = names_from 0 xs ++ (written (codes " \\in ") ∷ operand r ∷ [])

abbrev pub binders_from : ℕ → BoundTrees → List Piece
binders_from n no_bound = []
binders_from n (more_bound xs r bs) = before (codes ", ") n ++ (binder_pieces xs r ++ binders_from (suc n) bs)

-- an index in brackets
abbrev pub bracketed : Tree → List Piece
bracketed t = written (codes "[") ∷ operand t ∷ written (codes "]") ∷ []

-- one index of a path
abbrev pub index_pieces : Tree → List Piece
index_pieces (text s) = if is_field (string s) then written (codes ".") ∷ written s ∷ [] else bracketed (text s)
index_pieces t = bracketed t

abbrev pub path_pieces : Trees → List Piece
path_pieces no_trees = []
path_pieces (more_trees t ts) = index_pieces t ++ path_pieces ts

abbrev pub update_pieces : Trees → Tree → List Piece
update_pieces ps e = written (codes "!") ∷ (path_pieces ps ++ (written (codes " = ") ∷ operand e ∷ []))

abbrev pub updates_from : ℕ → PathTrees → List Piece
updates_from n no_paths = []
updates_from n (more_paths ps e us) = before (codes ", ") n ++ (update_pieces ps e ++ updates_from (suc n) us)

-- a record, or a set of records
abbrev pub record_pieces : List ℕ → NamedTrees → List Piece
record_pieces sign ds = written (codes "[") ∷ (named_from sign (codes ", ") 0 ds ++ (written (codes "]") ∷ []))

-- the expression's text without its own `( )`
abbrev pub pieces_of : Tree → List Piece
pieces_of (name x) = written x ∷ []
pieces_of (primed x) = written x ∷ written (codes "'") ∷ []
pieces_of (number z) = written (signed_decimal z) ∷ []
pieces_of (text s) = written (string_text s) ∷ []
pieces_of (truth b) = written (truth_text b) ∷ []
pieces_of at = written (codes "@") ∷ []
pieces_of (word w) = written (word_text w) ∷ []
pieces_of (unary p a) = written (prefix_text p) ∷ operand a ∷ []
pieces_of (binary p a b) = operand a ∷ written (infix_text p) ∷ operand b ∷ []
pieces_of (product ts) = list_from (codes " \\X ") 0 ts
pieces_of (cond_of p a b) =
    written (codes "IF ") ∷ operand p ∷ written (codes " THEN ") ∷ operand a ∷ written (codes " ELSE ") ∷ operand b ∷ []
pieces_of (case_of gs) = written (codes "CASE ") ∷ arms_from 0 gs
pieces_of (case_other gs e) = written (codes "CASE ") ∷ (arms_from 0 gs ++ (written (codes " [] OTHER -> ") ∷ operand e ∷ []))
pieces_of (let_in ds e) =
    written (codes "LET ") ∷ (named_from (codes " == ") (codes " ") 0 ds ++ (written (codes " IN ") ∷ operand e ∷ []))
pieces_of (quantified q bs p) = written (quantifier_text q) ∷ (binders_from 0 bs ++ (written (codes " : ") ∷ operand p ∷ []))
pieces_of (choose x r p) =
    written (codes "CHOOSE ") ∷ written x ∷ written (codes " \\in ") ∷ operand r ∷ written (codes " : ") ∷ operand p ∷ []
pieces_of (tuple ts) = written (codes "<<") ∷ (list_from (codes ", ") 0 ts ++ (written (codes ">>") ∷ []))
pieces_of (set_of ts) = written (codes "{") ∷ (list_from (codes ", ") 0 ts ++ (written (codes "}") ∷ []))
pieces_of (filter_of x r p) =
    written (codes "{") ∷ written x ∷ written (codes " \\in ") ∷ operand r ∷ written (codes " : ") ∷ operand p ∷ written (codes "}") ∷ []
pieces_of (image e x r) =
    written (codes "{") ∷ operand e ∷ written (codes " : ") ∷ written x ∷ written (codes " \\in ") ∷ operand r ∷ written (codes "}") ∷ []
pieces_of (fun_of bs e) =
    written (codes "[") ∷ (binders_from 0 bs ++ (written (codes " |-> ") ∷ operand e ∷ written (codes "]") ∷ []))
pieces_of (fun_set a b) = written (codes "[") ∷ operand a ∷ written (codes " -> ") ∷ operand b ∷ written (codes "]") ∷ []
pieces_of (record_of ds) = record_pieces (codes " |-> ") ds
pieces_of (record_set ds) = record_pieces (codes " : ") ds
pieces_of (except f us) =
    written (codes "[") ∷ operand f ∷ written (codes " EXCEPT ") ∷ (updates_from 0 us ++ (written (codes "]") ∷ []))
pieces_of (index f ts) = operand f ∷ written (codes "[") ∷ (list_from (codes ", ") 0 ts ++ (written (codes "]") ∷ []))
pieces_of (field r x) = operand r ∷ written (codes ".") ∷ written x ∷ []
pieces_of (call x ts) = written x ∷ written (codes "(") ∷ (list_from (codes ", ") 0 ts ++ (written (codes ")") ∷ []))
pieces_of (unchanged xs) = written (codes "UNCHANGED <<") ∷ (names_from 0 xs ++ (written (codes ">>") ∷ []))
