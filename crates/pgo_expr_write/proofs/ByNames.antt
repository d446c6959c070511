-- Expressions with variables by their names alone: as they were where there is none, and their text by pieces.
use Rattle.std.proofs.Common.{◌≡◌, ◌≤◌, arith, length, ℕ, zero, suc, Bool, true, false, List, [], ◌∷◌, ◌++◌, map, Option, Some, None, refl, ap, sym, ◌∙◌}
use Rattle.std.specs.Prelude.{codes, if◌then◌else◌}
use Rattle.std.proofs.lemmas.List.{map-append}
use Rattle.pgo_base.specs.declared.expr.Expr.{Expr}
use Rattle.pgo_base.specs.Data.{string}
use Rattle.pgo_base.specs.ExprView.{tree}
use Rattle.pgo_base.specs.Lookup.{Name}
use Rattle.pgo_base.specs.Tree.{Tree, name, primed, number, text, truth, at, word, unary, binary, product, cond_of, case_of, case_other, let_in, quantified, choose, tuple, set_of, filter_of, image, fun_of, fun_set, record_of, record_set, except, index, field, call, unchanged, Trees, no_trees, more_trees, NamedTrees, no_named, more_named, TreePairs, no_arms, more_arms, BoundTrees, no_bound, more_bound, PathTrees, no_paths, more_paths, trees}
use Rattle.pgo_model.specs.Options.{on}
use Rattle.pgo_model.specs.ValueText.{is_field}
use Rattle.pgo_model.specs.ExprText.{quantifier_text, expr_text}
use Rattle.pgo_expr_write.specs.ByName.{own_variable, own_part, by_name, all_by_name, named_by_name, arms_by_name, bound_by_name, paths_by_name, piece_by_name, is_self}
use Rattle.pgo_expr_write.specs.declared.parts.Part.{Part}
use Rattle.pgo_expr_write.specs.Parts.{see}
use Rattle.pgo_expr_write.specs.Pieces.{Piece, written, operand, list_from, names_from, named_from, arms_from, binder_pieces, binders_from, bracketed, index_pieces, path_pieces, update_pieces, updates_from, pieces_of, pieces_text, is_enclosed}
use Rattle.pgo_expr_write.proofs.Written.{text_is}

-- ---- where there is no variable

none_own : (f : Tree) (ts : Trees) → own_variable [] f ts ≡ None
none_own (name x) ts = refl
none_own f ts = refl

mutual
  pub as_it_is : (t : Tree) → by_name [] t ≡ t
  as_it_is (name x) = refl
  as_it_is (primed x) = refl
  as_it_is (number z) = refl
  as_it_is (text s) = refl
  as_it_is (truth b) = refl
  as_it_is at = refl
  as_it_is (word w) = refl
  as_it_is (unary o a) = λ i. unary o (as_it_is a i)
  as_it_is (binary o a b) = λ i. binary o (as_it_is a i) (as_it_is b i)
  as_it_is (product ts) = λ i. product (all_as_is ts i)
  as_it_is (cond_of p a b) = λ i. cond_of (as_it_is p i) (as_it_is a i) (as_it_is b i)
  as_it_is (case_of gs) = λ i. case_of (arms_as_is gs i)
  as_it_is (case_other gs e) = λ i. case_other (arms_as_is gs i) (as_it_is e i)
  as_it_is (let_in ds e) = λ i. let_in (named_as_is ds i) (as_it_is e i)
  as_it_is (quantified q bs p) = λ i. quantified q (bound_as_is bs i) (as_it_is p i)
  as_it_is (choose x r p) = λ i. choose x (as_it_is r i) (as_it_is p i)
  as_it_is (tuple ts) = λ i. tuple (all_as_is ts i)
  as_it_is (set_of ts) = λ i. set_of (all_as_is ts i)
  as_it_is (filter_of x r p) = λ i. filter_of x (as_it_is r i) (as_it_is p i)
  as_it_is (image e x r) = λ i. image (as_it_is e i) x (as_it_is r i)
  as_it_is (fun_of bs e) = λ i. fun_of (bound_as_is bs i) (as_it_is e i)
  as_it_is (fun_set a b) = λ i. fun_set (as_it_is a i) (as_it_is b i)
  as_it_is (record_of ds) = λ i. record_of (named_as_is ds i)
  as_it_is (record_set ds) = λ i. record_set (named_as_is ds i)
  as_it_is (except f us) = λ i. except (as_it_is f i) (paths_as_is us i)
  as_it_is (index f ts) = (λ i. on (index (as_it_is f i) (all_as_is ts i)) (none_own f ts i) name)
  as_it_is (field r x) = λ i. field (as_it_is r i) x
  as_it_is (call x ts) = λ i. call x (all_as_is ts i)
  as_it_is (unchanged xs) = refl

  all_as_is : (ts : Trees) → all_by_name [] ts ≡ ts
  all_as_is no_trees = refl
  all_as_is (more_trees t ts) = λ i. more_trees (as_it_is t i) (all_as_is ts i)

  named_as_is : (ts : NamedTrees) → named_by_name [] ts ≡ ts
  named_as_is no_named = refl
  named_as_is (more_named x t ts) = λ i. more_named x (as_it_is t i) (named_as_is ts i)

  arms_as_is : (gs : TreePairs) → arms_by_name [] gs ≡ gs
  arms_as_is no_arms = refl
  arms_as_is (more_arms g e gs) = λ i. more_arms (as_it_is g i) (as_it_is e i) (arms_as_is gs i)

  bound_as_is : (bs : BoundTrees) → bound_by_name [] bs ≡ bs
  bound_as_is no_bound = refl
  bound_as_is (more_bound xs r bs) = λ i. more_bound xs (as_it_is r i) (bound_as_is bs i)

  paths_as_is : (us : PathTrees) → paths_by_name [] us ≡ us
  paths_as_is no_paths = refl
  paths_as_is (more_paths ps e us) = λ i. more_paths (all_as_is ps i) (as_it_is e i) (paths_as_is us i)

-- ---- the pieces

module _ (own : List Name) where
  abbrev all : List Piece → List Piece
  all = map (piece_by_name own)

  list_by : (w : List ℕ) (n : ℕ) (ts : Trees) → all (list_from w n ts) ≡ list_from w n (all_by_name own ts)
  list_by w n no_trees = refl
  list_by w zero (more_trees t ts) = λ i. operand (by_name own t) ∷ list_by w 1 ts i
  list_by w (suc n) (more_trees t ts) = λ i. written w ∷ operand (by_name own t) ∷ list_by w (suc (suc n)) ts i

  names_by : (n : ℕ) (xs : List Name) → all (names_from n xs) ≡ names_from n xs
  names_by n [] = refl
  names_by zero (x ∷ xs) = λ i. written x ∷ names_by 1 xs i
  names_by (suc n) (x ∷ xs) = λ i. written (codes ", ") ∷ written x ∷ names_by (suc (suc n)) xs i

  named_by : (sign w : List ℕ) (n : ℕ) (ts : NamedTrees) → all (named_from sign w n ts) ≡ named_from sign w n (named_by_name own ts)
  named_by sign w n no_named = refl
  named_by sign w zero (more_named x t ts) = λ i. written x ∷ written sign ∷ operand (by_name own t) ∷ named_by sign w 1 ts i
  named_by sign w (suc n) (more_named x t ts) =
      λ i. written w ∷ written x ∷ written sign ∷ operand (by_name own t) ∷ named_by sign w (suc (suc n)) ts i

  arms_by : (n : ℕ) (gs : TreePairs) → all (arms_from n gs) ≡ arms_from n (arms_by_name own gs)
  arms_by n no_arms = refl
  arms_by zero (more_arms g e gs) = λ i. operand (by_name own g) ∷ written (codes " -> ") ∷ operand (by_name own e) ∷ arms_by 1 gs i
  arms_by (suc n) (more_arms g e gs) =
      λ i. written (codes " [] ") ∷ operand (by_name own g) ∷ written (codes " -> ") ∷ operand (by_name own e) ∷ arms_by (suc (suc n)) gs i

  -- what stands before a row of pieces, and what stands behind it
  joined : (xs ys behind : List Piece) → all xs ≡ ys → all (xs ++ behind) ≡ ys ++ all behind
  joined xs ys behind e = map-append (piece_by_name own) xs behind ∙ ap (λ l. l ++ all behind) e

  binder_by : (xs : List Name) (r : Tree) → all (binder_pieces xs r) ≡ binder_pieces xs (by_name own r)
  binder_by xs r = joined (names_from 0 xs) _ (written (codes " \\in ") ∷ operand r ∷ []) (names_by 0 xs)

  binders_by : (n : ℕ) (bs : BoundTrees) → all (binders_from n bs) ≡ binders_from n (bound_by_name own bs)
  binders_by n no_bound = refl
  binders_by zero (more_bound xs r bs) =
      joined (binder_pieces xs r) _ (binders_from 1 bs) (binder_by xs r) ∙ ap (λ l. binder_pieces xs (by_name own r) ++ l) (binders_by 1 bs)
  binders_by (suc n) (more_bound xs r bs) =
      ap (λ l. written (codes ", ") ∷ l)
      (joined (binder_pieces xs r) _ (binders_from (suc (suc n)) bs) (binder_by xs r)
      ∙ ap (λ l. binder_pieces xs (by_name own r) ++ l) (binders_by (suc (suc n)) bs))

  string_by : (b : Bool) (s : List ℕ) (c : List Piece) → all c ≡ c → all (if b then written (codes ".") ∷ written s ∷ [] else c) ≡ (if b then written (codes ".") ∷ written s ∷ [] else c)
  string_by true s c e = refl
  string_by false s c e = e

  bracket_by : (f : Tree) (ts : Trees) (o : Option Name) → bracketed (on (index f ts) o name) ≡ index_pieces (on (index f ts) o name)
  bracket_by f ts None = refl
  bracket_by f ts (Some x) = refl

  index_by : (t : Tree) → all (index_pieces t) ≡ index_pieces (by_name own t)
  index_by (text s) = string_by (is_field (string s)) s (bracketed (text s)) refl
  index_by (index f ts) = bracket_by (by_name own f) (all_by_name own ts) (own_variable own f ts)
  index_by t = refl

  path_by : (ts : Trees) → all (path_pieces ts) ≡ path_pieces (all_by_name own ts)
  path_by no_trees = refl
  path_by (more_trees t ts) =
      joined (index_pieces t) _ (path_pieces ts) (index_by t) ∙ ap (λ l. index_pieces (by_name own t) ++ l) (path_by ts)

  update_by : (ps : Trees) (e : Tree) → all (update_pieces ps e) ≡ update_pieces (all_by_name own ps) (by_name own e)
  update_by ps e = ap (λ l. written (codes "!") ∷ l) (joined (path_pieces ps) _ (written (codes " = ") ∷ operand e ∷ []) (path_by ps))

  updates_by : (n : ℕ) (us : PathTrees) → all (updates_from n us) ≡ updates_from n (paths_by_name own us)
  updates_by n no_paths = refl
  updates_by zero (more_paths ps e us) =
      joined (update_pieces ps e) _ (updates_from 1 us) (update_by ps e)
      ∙ ap (λ l. update_pieces (all_by_name own ps) (by_name own e) ++ l) (updates_by 1 us)
  updates_by (suc n) (more_paths ps e us) =
      ap (λ l. written (codes ", ") ∷ l)
      (joined (update_pieces ps e) _ (updates_from (suc (suc n)) us) (update_by ps e)
      ∙ ap (λ l. update_pieces (all_by_name own ps) (by_name own e) ++ l) (updates_by (suc (suc n)) us))

  -- of an expression that is no variable's part
  pieces_by : (t : Tree) → own_part own t ≡ None → all (pieces_of t) ≡ pieces_of (by_name own t)
  pieces_by (product ts) h = list_by (codes " \\X ") 0 ts
  pieces_by (case_of gs) h = ap (λ l. written (codes "CASE ") ∷ l) (arms_by 0 gs)
  pieces_by (case_other gs e) h = ap (λ l. written (codes "CASE ") ∷ l) (joined (arms_from 0 gs) _ _ (arms_by 0 gs))
  pieces_by (let_in ds e) h = ap (λ l. written (codes "LET ") ∷ l) (joined (named_from (codes " == ") (codes " ") 0 ds) _ _ (named_by (codes " == ") (codes " ") 0 ds))
  pieces_by (quantified q bs p) h = ap (λ l. written (quantifier_text q) ∷ l) (joined (binders_from 0 bs) _ _ (binders_by 0 bs))
  pieces_by (tuple ts) h = ap (λ l. written (codes "<<") ∷ l) (joined (list_from (codes ", ") 0 ts) _ _ (list_by (codes ", ") 0 ts))
  pieces_by (set_of ts) h = ap (λ l. written (codes "{") ∷ l) (joined (list_from (codes ", ") 0 ts) _ _ (list_by (codes ", ") 0 ts))
  pieces_by (fun_of bs e) h = ap (λ l. written (codes "[") ∷ l) (joined (binders_from 0 bs) _ _ (binders_by 0 bs))
  pieces_by (record_of ds) h = ap (λ l. written (codes "[") ∷ l) (joined (named_from (codes " |-> ") (codes ", ") 0 ds) _ _ (named_by (codes " |-> ") (codes ", ") 0 ds))
  pieces_by (record_set ds) h = ap (λ l. written (codes "[") ∷ l) (joined (named_from (codes " : ") (codes ", ") 0 ds) _ _ (named_by (codes " : ") (codes ", ") 0 ds))
  pieces_by (except f us) h =
      ap (λ l. written (codes "[") ∷ operand (by_name own f) ∷ written (codes " EXCEPT ") ∷ l) (joined (updates_from 0 us) _ _ (updates_by 0 us))
  pieces_by (index f ts) h =
      ap (λ l. operand (by_name own f) ∷ written (codes "[") ∷ l) (joined (list_from (codes ", ") 0 ts) _ _ (list_by (codes ", ") 0 ts))
      ∙ sym (ap (λ o. pieces_of (on (index (by_name own f) (all_by_name own ts)) o name)) h)
  pieces_by (call x ts) h = ap (λ l. written x ∷ written (codes "(") ∷ l) (joined (list_from (codes ", ") 0 ts) _ _ (list_by (codes ", ") 0 ts))
  pieces_by (unchanged xs) h = ap (λ l. written (codes "UNCHANGED <<") ∷ l) (joined (names_from 0 xs) _ _ (names_by 0 xs))
  pieces_by t h = refl

  -- ---- the text

  either_enclosed : (f : Tree) (ts : Trees) (o : Option Name) → is_enclosed (on (index f ts) o name) ≡ false
  either_enclosed f ts None = refl
  either_enclosed f ts (Some x) = refl

  enclosed_by : (t : Tree) → is_enclosed (by_name own t) ≡ is_enclosed t
  enclosed_by (index f ts) = either_enclosed (by_name own f) (all_by_name own ts) (own_variable own f ts)
  enclosed_by t = refl

outer_text : (t : Tree) → expr_text false t ≡ (if is_enclosed t then codes "(" ++ expr_text true t ++ codes ")" else expr_text true t)
outer_text (name x) = refl
outer_text t = refl

choice_is : {A : Type 0} (b c : Bool) (x y : A) → b ≡ c → (if b then x else y) ≡ (if c then x else y)
choice_is b c x y e = ap (λ d. if d then x else y) e

-- an operand that stands in no `( )`
pub bare_operand : (own : List Name) (t : Tree) → is_enclosed t ≡ false → expr_text false (by_name own t) ≡ expr_text true (by_name own t)
bare_operand own t h = outer_text (by_name own t) ∙ choice_is _ _ _ _ (enclosed_by own t ∙ h)

-- one that stands in `( )`
pub closed_operand : (own : List Name) (t : Tree) → is_enclosed t ≡ true → expr_text false (by_name own t) ≡ codes "(" ++ expr_text true (by_name own t) ++ codes ")"
closed_operand own t h = outer_text (by_name own t) ∙ choice_is _ _ _ _ (enclosed_by own t ∙ h)

-- a variable's part
pub part_text : (own : List Name) (t : Tree) (x : Name) → own_part own t ≡ Some x → expr_text true (by_name own t) ≡ x
part_text own (index f ts) x h = ap (λ o. expr_text true (on (index (by_name own f) (all_by_name own ts)) o name)) h
part_text own t x h = absurd (cc h)

-- any other expression
pub parts_by_name : (own : List Name) (xs ys : List Part) (t : Tree) → xs ≡ ys → map see ys ≡ pieces_of t → None ≡ own_part own t
    → pieces_text (map (piece_by_name own) (map see xs)) ≡ expr_text true (by_name own t)
parts_by_name own xs ys t e h n =
    ap (λ l. pieces_text (map (piece_by_name own) (map see l))) e
    ∙ ap (λ l. pieces_text (map (piece_by_name own) l)) h
    ∙ ap pieces_text (pieces_by own t (sym n))
    ∙ text_is (by_name own t)

-- ---- the index

pub several : (xs : List Expr) (ts : List Tree) → map tree xs ≡ ts → 2 ≤ length xs → false ≡ is_self (trees ts)
several [] ts e h = absurd (omega arith)
several (x ∷ []) ts e h = absurd (omega arith)
several (x ∷ y ∷ zs) ts e h = ap (λ us. is_self (trees us)) e
