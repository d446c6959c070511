-- The pieces of an expression, one level deep, in the order of the text, and the names that stand in them.
use Rattle.std.specs.Prelude.{ℕ, zero, suc, ◌+◌, true, List, [], ◌∷◌, ◌++◌, take, length}
use Rattle.pgo_base.specs.Tree.{Tree, name, primed, number, text, truth, at, word, unary, binary, product, cond_of, case_of, case_other, let_in, quantified, choose, tuple, set_of, filter_of, image, fun_of, fun_set, record_of, record_set, except, index, field, call, unchanged, Trees, no_trees, more_trees, NamedTrees, no_named, more_named, TreePairs, no_arms, more_arms, BoundTrees, no_bound, more_bound, PathTrees, no_paths, more_paths}
use Rattle.pgo_base.specs.Lookup.{Name}
pub use Rattle.pgo_base.specs.BoundNames.{bound_by}
use Rattle.pgo_uses.specs.declared.uses.Around.{Around}
use Rattle.pgo_uses.specs.declared.uses.Form.{Form}
use Rattle.pgo_uses.specs.declared.uses.Form.TheVariants.{Alone, Applied, Bound, Field}
use Rattle.pgo_uses.specs.declared.uses.Use.{Use}
use Rattle.pgo_uses.specs.declared.pieces.Manner.{Manner}
use Rattle.pgo_uses.specs.declared.pieces.Manner.TheVariants.{Plain, Indexed, Hidden}
use Rattle.pgo_uses.specs.Uses.{one, inside, hide, count_trees, let_names, binder_names, uses}

-- a name as it stands, a name that is bound, an operand: with the number of the expression's names that are in scope there
pub data Piece : Type 0 where
  used : Name → Form → Piece
  binds : Name → ℕ → Piece
  operand : Tree → Manner → ℕ → Piece

abbrev pub operands : Trees → List Piece
operands no_trees = []
operands (more_trees t ts) = operand t Plain 0 ∷ operands ts

abbrev pub field_pieces : NamedTrees → List Piece
field_pieces no_named = []
field_pieces (more_named x t ds) = used x Field ∷ operand t Plain 0 ∷ field_pieces ds

abbrev pub arm_pieces : Manner → TreePairs → List Piece
arm_pieces m no_arms = []
arm_pieces m (more_arms p t gs) = operand p m 0 ∷ operand t Hidden 0 ∷ arm_pieces Hidden gs

-- definitions of a LET behind n others
abbrev pub let_pieces : ℕ → NamedTrees → List Piece
let_pieces n no_named = []
let_pieces n (more_named x t ds) = binds x n ∷ operand t Hidden n ∷ let_pieces (suc n) ds

-- names that are bound behind n others
abbrev pub name_pieces : ℕ → List Name → List Piece
name_pieces n [] = []
name_pieces n (x ∷ xs) = binds x n ∷ name_pieces (suc n) xs

-- binders behind n names
abbrev pub binder_pieces : ℕ → BoundTrees → List Piece
binder_pieces n no_bound = []
binder_pieces n (more_bound xs r bs) = name_pieces n xs ++ operand r Plain 0 ∷ binder_pieces (length xs + n) bs

-- binders, and what sees all their names
abbrev pub bound_pieces : BoundTrees → Tree → List Piece
bound_pieces bs t = binder_pieces 0 bs ++ operand t Hidden (length (binder_names bs)) ∷ []

abbrev pub update_pieces : PathTrees → List Piece
update_pieces no_paths = []
update_pieces (more_paths ps t us) = operands ps ++ operand t Plain 0 ∷ update_pieces us

abbrev pub index_manner : Trees → Manner
index_manner no_trees = Plain
index_manner (more_trees t no_trees) = Indexed
index_manner (more_trees t (more_trees u us)) = Plain

abbrev pub pieces_of : Tree → List Piece
pieces_of (name x) = used x Alone ∷ []
pieces_of (primed x) = []
pieces_of (number z) = []
pieces_of (text s) = []
pieces_of (truth b) = []
pieces_of at = []
pieces_of (word w) = []
pieces_of (unary o t) = operand t Plain 0 ∷ []
pieces_of (binary o t u) = operand t Plain 0 ∷ operand u Plain 0 ∷ []
pieces_of (product ts) = operands ts
pieces_of (cond_of p t u) = operand p Plain 0 ∷ operand t Hidden 0 ∷ operand u Hidden 0 ∷ []
pieces_of (case_of gs) = arm_pieces Plain gs
pieces_of (case_other gs t) = arm_pieces Plain gs ++ operand t Hidden 0 ∷ []
pieces_of (let_in ds t) = let_pieces 0 ds ++ operand t Hidden (length (let_names ds)) ∷ []
pieces_of (quantified q bs p) = bound_pieces bs p
pieces_of (choose x r p) = binds x 0 ∷ operand r Plain 0 ∷ operand p Hidden 1 ∷ []
pieces_of (tuple ts) = operands ts
pieces_of (set_of ts) = operands ts
pieces_of (filter_of x r p) = binds x 0 ∷ operand r Plain 0 ∷ operand p Hidden 1 ∷ []
pieces_of (image t x r) = operand t Hidden 1 ∷ binds x 0 ∷ operand r Plain 0 ∷ []
pieces_of (fun_of bs t) = bound_pieces bs t
pieces_of (fun_set t u) = operand t Plain 0 ∷ operand u Plain 0 ∷ []
pieces_of (record_of ds) = field_pieces ds
pieces_of (record_set ds) = field_pieces ds
pieces_of (except t us) = operand t Plain 0 ∷ update_pieces us
pieces_of (index t ts) = operand t (index_manner ts) 0 ∷ operands ts
pieces_of (field t x) = operand t Plain 0 ∷ used x Field ∷ []
pieces_of (call x ts) = used x (Applied (count_trees ts)) ∷ operands ts
pieces_of (unchanged xs) = []

abbrev pub in_manner : Manner → Around → Around
in_manner Plain a = inside a
in_manner Indexed a = record a { indexed = true }
in_manner Hidden a = hide a

-- the names in scope, and the first n of bs
abbrev pub within : List Name → List Name → ℕ → List Name
within ns bs zero = ns
within ns bs (suc n) = ns ++ take (suc n) bs

abbrev pub piece_uses : List Name → List Name → Around → Piece → List Use
piece_uses ns bs a (used x f) = one ns a x f
piece_uses ns bs a (binds x n) = one (within ns bs n) a x Bound
piece_uses ns bs a (operand t m n) = uses (within ns bs n) (in_manner m a) t

abbrev pub pieces_uses : List Name → List Name → Around → List Piece → List Use
pieces_uses ns bs a [] = []
pieces_uses ns bs a (p ∷ ps) = piece_uses ns bs a p ++ pieces_uses ns bs a ps
