-- The texts of the lists of an expression are those of their pieces.
use Rattle.std.proofs.Common.{◌≡◌, ℕ, suc, Bool, true, false, List, [], ◌∷◌, ◌++◌, refl, ap, sym, ◌∙◌, append_assoc}
use Rattle.std.specs.Prelude.{codes, if◌then◌else◌}
use Rattle.std.proofs.lemmas.List.{append-nil}
use Rattle.pgo_base.specs.Data.{string}
use Rattle.pgo_base.specs.Lookup.{Name}
use Rattle.pgo_base.specs.Tree.{Tree, name, primed, number, text, truth, at, word, unary, binary, product, cond_of, case_of, case_other, let_in, quantified, choose, tuple, set_of, filter_of, image, fun_of, fun_set, record_of, record_set, except, index, field, call, unchanged, Trees, no_trees, more_trees, NamedTrees, no_named, more_named, TreePairs, no_arms, more_arms, BoundTrees, no_bound, more_bound, PathTrees, no_paths, more_paths}
use Rattle.pgo_model.specs.ValueText.{string_text, is_field}
use Rattle.pgo_model.specs.ExprText.{expr_text, list_text, product_text, names_text, arms_text, lets_text, fields_text, binders_text, updates_text, path_text}
use Rattle.pgo_expr_write.specs.Pieces.{Piece, written, operand, piece_text, pieces_text, list_from, names_from, named_from, arms_from, binder_pieces, binders_from, bracketed, path_pieces, update_pieces, updates_from}
use Rattle.pgo_expr_write.proofs.Nesting.{three, two_more, three_more, four_more}

pub pieces-append : (xs ys : List Piece) → pieces_text (xs ++ ys) ≡ pieces_text xs ++ pieces_text ys
pieces-append [] ys = refl
pieces-append (x ∷ xs) ys = ap (λ l. piece_text x ++ l) (pieces-append xs ys) ∙ sym (append_assoc (piece_text x) (pieces_text xs) (pieces_text ys))

-- pieces behind a text and before others
pub around : (a b c : List ℕ) (xs ys : List Piece) → pieces_text xs ≡ b → pieces_text ys ≡ c → a ++ pieces_text (xs ++ ys) ≡ a ++ b ++ c
around a b c xs ys e f = ap (λ l. a ++ l) (pieces-append xs ys ∙ (λ i. e i ++ f i)) ∙ sym (append_assoc a b c)

list_more : (n : ℕ) (t : Tree) (ts : Trees) → expr_text false t ++ pieces_text (list_from (codes ", ") (suc n) ts) ≡ list_text (more_trees t ts)
list_more n t no_trees = append-nil (expr_text false t)
list_more n t (more_trees u us) = two_more (expr_text false t) (codes ", ") _ _ (list_more (suc n) u us)

pub list_is : (ts : Trees) → pieces_text (list_from (codes ", ") 0 ts) ≡ list_text ts
list_is no_trees = refl
list_is (more_trees t ts) = list_more 0 t ts

product_more : (n : ℕ) (t : Tree) (ts : Trees) → expr_text false t ++ pieces_text (list_from (codes " \\X ") (suc n) ts) ≡ product_text (more_trees t ts)
product_more n t no_trees = append-nil (expr_text false t)
product_more n t (more_trees u us) = two_more (expr_text false t) (codes " \\X ") _ _ (product_more (suc n) u us)

pub product_is : (ts : Trees) → pieces_text (list_from (codes " \\X ") 0 ts) ≡ product_text ts
product_is no_trees = refl
product_is (more_trees t ts) = product_more 0 t ts

names_more : (n : ℕ) (x : Name) (xs : List Name) → x ++ pieces_text (names_from (suc n) xs) ≡ names_text (x ∷ xs)
names_more n x [] = append-nil x
names_more n x (y ∷ ys) = two_more x (codes ", ") _ _ (names_more (suc n) y ys)

pub names_is : (xs : List Name) → pieces_text (names_from 0 xs) ≡ names_text xs
names_is [] = refl
names_is (x ∷ xs) = names_more 0 x xs

lets_more : (n : ℕ) (x : Name) (t : Tree) (ts : NamedTrees)
    → x ++ (codes " == " ++ (expr_text false t ++ pieces_text (named_from (codes " == ") (codes " ") (suc n) ts))) ≡ lets_text (more_named x t ts)
lets_more n x t no_named = three x (codes " == ") (expr_text false t)
lets_more n x t (more_named y u us) = four_more x (codes " == ") (expr_text false t) (codes " ") _ _ (lets_more (suc n) y u us)

pub lets_is : (ts : NamedTrees) → pieces_text (named_from (codes " == ") (codes " ") 0 ts) ≡ lets_text ts
lets_is no_named = refl
lets_is (more_named x t ts) = lets_more 0 x t ts

fields_more : (sign : List ℕ) (n : ℕ) (x : Name) (t : Tree) (ts : NamedTrees)
    → x ++ (sign ++ (expr_text false t ++ pieces_text (named_from sign (codes ", ") (suc n) ts))) ≡ fields_text sign (more_named x t ts)
fields_more sign n x t no_named = three x sign (expr_text false t)
fields_more sign n x t (more_named y u us) = four_more x sign (expr_text false t) (codes ", ") _ _ (fields_more sign (suc n) y u us)

pub fields_is : (sign : List ℕ) (ts : NamedTrees) → pieces_text (named_from sign (codes ", ") 0 ts) ≡ fields_text sign ts
fields_is sign no_named = refl
fields_is sign (more_named x t ts) = fields_more sign 0 x t ts

arms_more : (n : ℕ) (g e : Tree) (hs : TreePairs)
    → expr_text false g ++ (codes " -> " ++ (expr_text false e ++ pieces_text (arms_from (suc n) hs))) ≡ arms_text (more_arms g e hs)
arms_more n g e no_arms = three (expr_text false g) (codes " -> ") (expr_text false e)
arms_more n g e (more_arms h f hs) =
    four_more (expr_text false g) (codes " -> ") (expr_text false e) (codes " [] ") _ _ (arms_more (suc n) h f hs)

pub arms_is : (gs : TreePairs) → pieces_text (arms_from 0 gs) ≡ arms_text gs
arms_is no_arms = refl
arms_is (more_arms g e hs) = arms_more 0 g e hs

binder_is : (xs : List Name) (r : Tree) → pieces_text (binder_pieces xs r) ≡ names_text xs ++ codes " \\in " ++ expr_text false r
binder_is xs r =
    around [] (names_text xs) _ (names_from 0 xs) (written (codes " \\in ") ∷ operand r ∷ []) (names_is xs) refl
    ∙ three (names_text xs) (codes " \\in ") (expr_text false r)

-- the last piece, and one before others
last_is : (xs : List Piece) (a : List ℕ) → pieces_text xs ≡ a → pieces_text (xs ++ []) ≡ a
last_is xs a e = ap pieces_text (append-nil xs) ∙ e

next_is : (xs ys : List Piece) (a b : List ℕ) → pieces_text xs ≡ a → pieces_text ys ≡ b
    → pieces_text (xs ++ written (codes ", ") ∷ ys) ≡ a ++ codes ", " ++ b
next_is xs ys a b e f =
    pieces-append xs (written (codes ", ") ∷ ys) ∙ (λ i. e i ++ (codes ", " ++ f i)) ∙ sym (append_assoc a (codes ", ") b)

binders_more : (n : ℕ) (xs : List Name) (r : Tree) (bs : BoundTrees)
    → pieces_text (binder_pieces xs r ++ binders_from (suc n) bs) ≡ binders_text (more_bound xs r bs)
binders_more n xs r no_bound = last_is (binder_pieces xs r) _ (binder_is xs r)
binders_more n xs r (more_bound ys q bs) = next_is (binder_pieces xs r) _ _ _ (binder_is xs r) (binders_more (suc n) ys q bs)

pub binders_is : (bs : BoundTrees) → pieces_text (binders_from 0 bs) ≡ binders_text bs
binders_is no_bound = refl
binders_is (more_bound xs r bs) = binders_more 0 xs r bs

in_brackets : (t : List ℕ) (x y : List ℕ) → x ≡ y → codes "[" ++ (t ++ (codes "]" ++ x)) ≡ codes "[" ++ t ++ codes "]" ++ y
in_brackets t x y h = three_more (codes "[") t (codes "]") x y h

string_index : (b : Bool) (s : List ℕ) (xs : List Piece) (y : List ℕ) → pieces_text xs ≡ y
    → pieces_text ((if b then written (codes ".") ∷ written s ∷ [] else bracketed (text s)) ++ xs)
    ≡ (if b then codes "." ++ s else codes "[" ++ string_text s ++ codes "]") ++ y
string_index true s xs y h = ap (λ l. codes "." ++ (s ++ l)) h
string_index false s xs y h = in_brackets (string_text s) _ y h

path_is : (ts : Trees) → pieces_text (path_pieces ts) ≡ path_text ts
path_is no_trees = refl
path_is (more_trees (text s) ts) = string_index (is_field (string s)) s (path_pieces ts) _ (path_is ts)
path_is (more_trees (name x) ts) = in_brackets (expr_text false (name x)) _ _ (path_is ts)
path_is (more_trees (primed x) ts) = in_brackets (expr_text false (primed x)) _ _ (path_is ts)
path_is (more_trees (number z) ts) = in_brackets (expr_text false (number z)) _ _ (path_is ts)
path_is (more_trees (truth b) ts) = in_brackets (expr_text false (truth b)) _ _ (path_is ts)
path_is (more_trees at ts) = in_brackets (expr_text false at) _ _ (path_is ts)
path_is (more_trees (word w) ts) = in_brackets (expr_text false (word w)) _ _ (path_is ts)
path_is (more_trees (unary p a) ts) = in_brackets (expr_text false (unary p a)) _ _ (path_is ts)
path_is (more_trees (binary p a b) ts) = in_brackets (expr_text false (binary p a b)) _ _ (path_is ts)
path_is (more_trees (product xs) ts) = in_brackets (expr_text false (product xs)) _ _ (path_is ts)
path_is (more_trees (cond_of p a b) ts) = in_brackets (expr_text false (cond_of p a b)) _ _ (path_is ts)
path_is (more_trees (case_of gs) ts) = in_brackets (expr_text false (case_of gs)) _ _ (path_is ts)
path_is (more_trees (case_other gs e) ts) = in_brackets (expr_text false (case_other gs e)) _ _ (path_is ts)
path_is (more_trees (let_in ds e) ts) = in_brackets (expr_text false (let_in ds e)) _ _ (path_is ts)
path_is (more_trees (quantified q bs p) ts) = in_brackets (expr_text false (quantified q bs p)) _ _ (path_is ts)
path_is (more_trees (choose x r p) ts) = in_brackets (expr_text false (choose x r p)) _ _ (path_is ts)
path_is (more_trees (tuple xs) ts) = in_brackets (expr_text false (tuple xs)) _ _ (path_is ts)
path_is (more_trees (set_of xs) ts) = in_brackets (expr_text false (set_of xs)) _ _ (path_is ts)
path_is (more_trees (filter_of x r p) ts) = in_brackets (expr_text false (filter_of x r p)) _ _ (path_is ts)
path_is (more_trees (image e x r) ts) = in_brackets (expr_text false (image e x r)) _ _ (path_is ts)
path_is (more_trees (fun_of bs e) ts) = in_brackets (expr_text false (fun_of bs e)) _ _ (path_is ts)
path_is (more_trees (fun_set a b) ts) = in_brackets (expr_text false (fun_set a b)) _ _ (path_is ts)
path_is (more_trees (record_of ds) ts) = in_brackets (expr_text false (record_of ds)) _ _ (path_is ts)
path_is (more_trees (record_set ds) ts) = in_brackets (expr_text false (record_set ds)) _ _ (path_is ts)
path_is (more_trees (except f us) ts) = in_brackets (expr_text false (except f us)) _ _ (path_is ts)
path_is (more_trees (index f xs) ts) = in_brackets (expr_text false (index f xs)) _ _ (path_is ts)
path_is (more_trees (field r x) ts) = in_brackets (expr_text false (field r x)) _ _ (path_is ts)
path_is (more_trees (call x xs) ts) = in_brackets (expr_text false (call x xs)) _ _ (path_is ts)
path_is (more_trees (unchanged xs) ts) = in_brackets (expr_text false (unchanged xs)) _ _ (path_is ts)

update_is : (ps : Trees) (e : Tree) → pieces_text (update_pieces ps e) ≡ codes "!" ++ path_text ps ++ codes " = " ++ expr_text false e
update_is ps e =
    around (codes "!") (path_text ps) _ (path_pieces ps) (written (codes " = ") ∷ operand e ∷ []) (path_is ps) refl
    ∙ three (codes "!" ++ path_text ps) (codes " = ") (expr_text false e)

updates_more : (n : ℕ) (ps : Trees) (e : Tree) (us : PathTrees)
    → pieces_text (update_pieces ps e ++ updates_from (suc n) us) ≡ updates_text (more_paths ps e us)
updates_more n ps e no_paths = last_is (update_pieces ps e) _ (update_is ps e)
updates_more n ps e (more_paths qs f us) = next_is (update_pieces ps e) _ _ _ (update_is ps e) (updates_more (suc n) qs f us)

pub updates_is : (us : PathTrees) → pieces_text (updates_from 0 us) ≡ updates_text us
updates_is no_paths = refl
updates_is (more_paths ps e us) = updates_more 0 ps e us
