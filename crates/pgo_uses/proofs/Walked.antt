-- The names in the pieces of an expression are the names in the expression.
use Rattle.std.proofs.Common.{◌≡◌, ◌+◌, ℕ, zero, suc, List, [], ◌∷◌, ◌++◌, map, take, length, refl, ap, sym, ◌∙◌, append_assoc, arith}
use Rattle.std.proofs.lemmas.List.{append-nil, length-append}
use Rattle.std.proofs.Math.Seq.{take-append_seam, take-length}
use Rattle.pgo_base.specs.Lookup.{Name}
use Rattle.pgo_base.specs.Tree.{Tree, name, primed, number, text, truth, at, word, unary, binary, product, cond_of, case_of, case_other, let_in, quantified, choose, tuple, set_of, filter_of, image, fun_of, fun_set, record_of, record_set, except, index, field, call, unchanged, Trees, no_trees, more_trees, NamedTrees, no_named, more_named, TreePairs, no_arms, more_arms, BoundTrees, no_bound, more_bound, PathTrees, no_paths, more_paths}
use Rattle.pgo_uses.specs.declared.uses.Around.{Around}
use Rattle.pgo_uses.specs.declared.uses.Use.{Use}
use Rattle.pgo_uses.specs.declared.uses.Form.TheVariants.{Bound}
use Rattle.pgo_uses.specs.declared.uses.Form.TheVariants as forms
use Rattle.pgo_uses.specs.declared.pieces.Manner.{Manner}
use Rattle.pgo_uses.specs.declared.pieces.Manner.TheVariants.{Plain, Hidden}
use Rattle.pgo_uses.specs.declared.pieces.Piece.{Piece as Lent}
use Rattle.pgo_uses.specs.PieceView.{see}
use Rattle.pgo_uses.specs.Uses.{one, inside, hide, indexed_by, count_trees, let_names, binder_names, bound_uses, uses, uses_of_all, uses_of_fields, uses_of_arms, uses_of_let, uses_of_binders, uses_of_updates}
use Rattle.pgo_uses.specs.Pieces.{Piece, operand, bound_by, operands, field_pieces, arm_pieces, let_pieces, name_pieces, binder_pieces, bound_pieces, update_pieces, index_manner, pieces_of, in_manner, within, piece_uses, pieces_uses}

pieces-append : (ns bs : List Name) (a : Around) (xs ys : List Piece) → pieces_uses ns bs a (xs ++ ys) ≡ pieces_uses ns bs a xs ++ pieces_uses ns bs a ys
pieces-append ns bs a [] ys = refl
pieces-append ns bs a (x ∷ xs) ys = ap (λ l. piece_uses ns bs a x ++ l) (pieces-append ns bs a xs ys) ∙ sym (append_assoc (piece_uses ns bs a x) (pieces_uses ns bs a xs) (pieces_uses ns bs a ys))

pub within_is : (ns bs : List Name) (n : ℕ) → within ns bs n ≡ ns ++ take n bs
within_is ns bs zero = sym (append-nil ns)
within_is ns bs (suc n) = refl

-- what is bound before a place is in scope there
pub within_at : (ns bs ms pre rest : List Name) (n : ℕ) → bs ≡ pre ++ rest → n ≡ length pre → ms ≡ ns ++ pre → within ns bs n ≡ ms
within_at ns bs ms pre rest n e k m =
    within_is ns bs n ∙ (λ i. ns ++ take (k i) (e i)) ∙ ap (λ l. ns ++ l) (take-append_seam pre rest) ∙ sym m

pub within_all : (ns bs : List Name) → within ns bs (length bs) ≡ ns ++ bs
within_all ns bs = within_is ns bs (length bs) ∙ ap (λ l. ns ++ l) (take-length bs)

longer : (n : ℕ) (pre xs : List Name) → n ≡ length pre → length xs + n ≡ length (pre ++ xs)
longer n pre xs k = omega (arith, length-append pre xs)

pub one_longer : (n : ℕ) (pre : List Name) (x : Name) → n ≡ length pre → suc n ≡ length (pre ++ x ∷ [])
one_longer n pre x k = omega (arith, length-append pre (x ∷ []))

pub more_scope : (ns ms pre xs : List Name) → ms ≡ ns ++ pre → ms ++ xs ≡ ns ++ (pre ++ xs)
more_scope ns ms pre xs m = ap (λ l. l ++ xs) m ∙ append_assoc ns pre xs

names_run : (ns bs ms pre xs rest : List Name) (a : Around) (n : ℕ) → bs ≡ pre ++ (xs ++ rest) → n ≡ length pre → ms ≡ ns ++ pre → pieces_uses ns bs a (name_pieces n xs) ≡ bound_uses ms a xs
names_run ns bs ms pre [] rest a n e k m = refl
names_run ns bs ms pre (x ∷ xs) rest a n e k m =
    let here : within ns bs n ≡ ms = within_at ns bs ms pre (x ∷ (xs ++ rest)) n e k m in
    let more : pieces_uses ns bs a (name_pieces (suc n) xs) ≡ bound_uses (ms ++ x ∷ []) a xs =
    names_run ns bs (ms ++ x ∷ []) (pre ++ x ∷ []) xs rest a (suc n) (e ∙ sym (append_assoc pre (x ∷ []) (xs ++ rest))) (one_longer n pre x k) (more_scope ns ms pre (x ∷ []) m) in
    λ i. one (here i) a x Bound ++ more i

binders_run : (ns bs ms pre rest : List Name) (cs : BoundTrees) (a : Around) (n : ℕ) → bs ≡ pre ++ (binder_names cs ++ rest) → n ≡ length pre → ms ≡ ns ++ pre → pieces_uses ns bs a (binder_pieces n cs) ≡ uses_of_binders ns ms a cs
binders_run ns bs ms pre rest no_bound a n e k m = refl
binders_run ns bs ms pre rest (more_bound xs r cs) a n e k m =
    let split : bs ≡ pre ++ (xs ++ (binder_names cs ++ rest)) = e ∙ ap (λ l. pre ++ l) (append_assoc xs (binder_names cs) rest) in
    let names : pieces_uses ns bs a (name_pieces n xs) ≡ bound_uses ms a xs = names_run ns bs ms pre xs (binder_names cs ++ rest) a n split k m in
    let more : pieces_uses ns bs a (binder_pieces (length xs + n) cs) ≡ uses_of_binders ns (ms ++ xs) a cs =
    binders_run ns bs (ms ++ xs) (pre ++ xs) rest cs a (length xs + n) (split ∙ sym (append_assoc pre xs (binder_names cs ++ rest))) (longer n pre xs k) (more_scope ns ms pre xs m) in
    pieces-append ns bs a (name_pieces n xs) (operand r Plain 0 ∷ binder_pieces (length xs + n) cs)
    ∙ (λ i. names i ++ (uses ns (inside a) r ++ more i))
    ∙ sym (append_assoc (bound_uses ms a xs) (uses ns (inside a) r) (uses_of_binders ns (ms ++ xs) a cs))

let_run : (ns bs ms pre rest : List Name) (ds : NamedTrees) (a : Around) (n : ℕ) → bs ≡ pre ++ (let_names ds ++ rest) → n ≡ length pre → ms ≡ ns ++ pre → pieces_uses ns bs a (let_pieces n ds) ≡ uses_of_let ms a ds
let_run ns bs ms pre rest no_named a n e k m = refl
let_run ns bs ms pre rest (more_named x t ds) a n e k m =
    let here : within ns bs n ≡ ms = within_at ns bs ms pre (x ∷ (let_names ds ++ rest)) n e k m in
    let more : pieces_uses ns bs a (let_pieces (suc n) ds) ≡ uses_of_let (ms ++ x ∷ []) a ds =
    let_run ns bs (ms ++ x ∷ []) (pre ++ x ∷ []) rest ds a (suc n) (e ∙ sym (append_assoc pre (x ∷ []) (let_names ds ++ rest))) (one_longer n pre x k) (more_scope ns ms pre (x ∷ []) m) in
    (λ i. one (here i) a x Bound ++ (uses (here i) (hide a) t ++ more i))

operands_run : (ns bs : List Name) (a : Around) (ts : Trees) → pieces_uses ns bs a (operands ts) ≡ uses_of_all ns (inside a) ts
operands_run ns bs a no_trees = refl
operands_run ns bs a (more_trees t ts) = ap (λ l. uses ns (inside a) t ++ l) (operands_run ns bs a ts)

fields_run : (ns bs : List Name) (a : Around) (ds : NamedTrees) → pieces_uses ns bs a (field_pieces ds) ≡ uses_of_fields ns a ds
fields_run ns bs a no_named = refl
fields_run ns bs a (more_named x t ds) = (λ i. one ns a x forms.Field ++ (uses ns (inside a) t ++ fields_run ns bs a ds i))

arms_run : (ns bs : List Name) (a : Around) (m : Manner) (gs : TreePairs) → pieces_uses ns bs a (arm_pieces m gs) ≡ uses_of_arms ns (in_manner m a) (hide a) gs
arms_run ns bs a m no_arms = refl
arms_run ns bs a m (more_arms p t gs) =
    (λ i. uses ns (in_manner m a) p ++ (uses ns (hide a) t ++ arms_run ns bs a Hidden gs i))
    ∙ sym (append_assoc (uses ns (in_manner m a) p) (uses ns (hide a) t) (uses_of_arms ns (hide a) (hide a) gs))

updates_run : (ns bs : List Name) (a : Around) (us : PathTrees) → pieces_uses ns bs a (update_pieces us) ≡ uses_of_updates ns (inside a) us
updates_run ns bs a no_paths = refl
updates_run ns bs a (more_paths ps t us) =
    pieces-append ns bs a (operands ps) (operand t Plain 0 ∷ update_pieces us)
    ∙ (λ i. operands_run ns bs a ps i ++ (uses ns (inside a) t ++ updates_run ns bs a us i))
    ∙ sym (append_assoc (uses_of_all ns (inside a) ps) (uses ns (inside a) t) (uses_of_updates ns (inside a) us))

two : (x y : List Use) → x ++ (y ++ []) ≡ x ++ y
two x y = ap (λ l. x ++ l) (append-nil y)

three : (x y z : List Use) → x ++ (y ++ (z ++ [])) ≡ x ++ y ++ z
three x y z = ap (λ l. x ++ (y ++ l)) (append-nil z) ∙ sym (append_assoc x y z)

bound_run : (ns : List Name) (a : Around) (bs : BoundTrees) (t : Tree) → pieces_uses ns (binder_names bs) a (bound_pieces bs t) ≡ uses_of_binders ns ns a bs ++ uses (ns ++ binder_names bs) (hide a) t
bound_run ns a bs t =
    let all = binder_names bs in
    pieces-append ns all a (binder_pieces 0 bs) (operand t Hidden (length all) ∷ [])
    ∙ (λ i. binders_run ns all ns [] [] bs a 0 (sym (append-nil all)) refl (sym (append-nil ns)) i ++ (uses (within_all ns all i) (hide a) t ++ []))
    ∙ two (uses_of_binders ns ns a bs) (uses (ns ++ all) (hide a) t)

let_all_run : (ns : List Name) (a : Around) (ds : NamedTrees) (t : Tree) → pieces_uses ns (let_names ds) a (pieces_of (let_in ds t)) ≡ uses ns a (let_in ds t)
let_all_run ns a ds t =
    let all = let_names ds in
    pieces-append ns all a (let_pieces 0 ds) (operand t Hidden (length all) ∷ [])
    ∙ (λ i. let_run ns all ns [] [] ds a 0 (sym (append-nil all)) refl (sym (append-nil ns)) i ++ (uses (within_all ns all i) (hide a) t ++ []))
    ∙ two (uses_of_let ns a ds) (uses (ns ++ all) (hide a) t)

manner_is : (ts : Trees) (a : Around) → in_manner (index_manner ts) a ≡ indexed_by ts a
manner_is no_trees a = refl
manner_is (more_trees t no_trees) a = refl
manner_is (more_trees t (more_trees u us)) a = refl

pub walked : (ns : List Name) (a : Around) (t : Tree) → pieces_uses ns (bound_by t) a (pieces_of t) ≡ uses ns a t
walked ns a (name x) = refl
walked ns a (primed x) = refl
walked ns a (number z) = refl
walked ns a (text s) = refl
walked ns a (truth b) = refl
walked ns a at = refl
walked ns a (word w) = refl
walked ns a (unary o t) = append-nil (uses ns (inside a) t)
walked ns a (binary o t u) = two (uses ns (inside a) t) (uses ns (inside a) u)
walked ns a (product ts) = operands_run ns [] a ts
walked ns a (cond_of p t u) = three (uses ns (inside a) p) (uses ns (hide a) t) (uses ns (hide a) u)
walked ns a (case_of gs) = arms_run ns [] a Plain gs
walked ns a (case_other gs t) =
    pieces-append ns [] a (arm_pieces Plain gs) (operand t Hidden 0 ∷ [])
    ∙ (λ i. arms_run ns [] a Plain gs i ++ append-nil (uses ns (hide a) t) i)
walked ns a (let_in ds t) = let_all_run ns a ds t
walked ns a (quantified q bs p) = bound_run ns a bs p
walked ns a (choose x r p) = three (one ns a x Bound) (uses ns (inside a) r) (uses (ns ++ x ∷ []) (hide a) p)
walked ns a (tuple ts) = operands_run ns [] a ts
walked ns a (set_of ts) = operands_run ns [] a ts
walked ns a (filter_of x r p) = three (one ns a x Bound) (uses ns (inside a) r) (uses (ns ++ x ∷ []) (hide a) p)
walked ns a (image t x r) = three (uses (ns ++ x ∷ []) (hide a) t) (one ns a x Bound) (uses ns (inside a) r)
walked ns a (fun_of bs t) = bound_run ns a bs t
walked ns a (fun_set t u) = two (uses ns (inside a) t) (uses ns (inside a) u)
walked ns a (record_of ds) = fields_run ns [] a ds
walked ns a (record_set ds) = fields_run ns [] a ds
walked ns a (except t us) = ap (λ l. uses ns (inside a) t ++ l) (updates_run ns [] a us)
walked ns a (index t ts) = λ i. uses ns (manner_is ts a i) t ++ operands_run ns [] a ts i
walked ns a (field t x) = refl
walked ns a (call x ts) = ap (λ l. one ns a x (forms.Applied (count_trees ts)) ++ l) (operands_run ns [] a ts)
walked ns a (unchanged xs) = refl

pub all_walked : (ns : List Name) (a : Around) (t : Tree) (xs ys : List Lent) (bs : List Name) → xs ≡ ys → map see ys ≡ pieces_of t → bs ≡ bound_by t → pieces_uses ns bs a (map see xs) ≡ uses ns a t
all_walked ns a t xs ys bs e f h =
    (λ i. pieces_uses ns bs a (map see (e i))) ∙ (λ i. pieces_uses ns (h i) a (f i)) ∙ walked ns a t
