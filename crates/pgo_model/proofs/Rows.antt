-- Worked examples, computed: what each form means, and where it has no value.
use Rattle.std.specs.Prelude.{◌≡◌, ℕ, zero, suc, pos, negsuc, true, false, List, [], ◌∷◌, map, codes, Option, Some, None, refl}
use Rattle.pgo_base.specs.declared.expr.Prefix.TheVariants as prefixs
use Rattle.pgo_base.specs.declared.expr.Infix.TheVariants as infixs
use Rattle.pgo_base.specs.declared.expr.Quantifier.TheVariants as quantifiers
use Rattle.pgo_base.specs.declared.expr.Quantifier.{Quantifier}
use Rattle.pgo_base.specs.declared.expr.Word.TheVariants as words
use Rattle.pgo_base.specs.Data.{Data, boolean, integer, string, model, set, function, items, pair, no_pairs}
use Rattle.pgo_base.specs.Tree.{Tree, name, primed, number, text, truth, at, word, unary, binary, product, cond_of, case_of, case_other, let_in, quantified, choose, tuple, set_of, filter_of, image, fun_of, fun_set, record_of, record_set, except, index, field, call, unchanged, trees, named, arms, bound, paths}
use Rattle.pgo_base.specs.Lookup.{Name, Names, Vars}
use Rattle.pgo_model.specs.Val.{Scope, Defined, Given, Means, meanings, val}

-- each expression has the value beside it, or none
abbrev Rows : Scope → List (Tree × Option Data) → Type 0
Rows s rs = map (λ r. val r.0 s) rs ≡ map (λ r. r.1) rs

abbrev scope_of : Names → Vars → Option Vars → List Defined → Scope
scope_of names now next ds = record { names = names; part = None; now = now; next = next; defs = meanings ds now next }

abbrev nothing : Scope
nothing = scope_of [] [] None []

abbrev n : ℕ → Tree
n k = number (pos k)

abbrev least : Tree
least = number (negsuc 9223372036854775807)

abbrev greatest : Tree
greatest = n 9223372036854775807

abbrev yes : Tree
yes = truth true

abbrev no : Tree
no = truth false

-- an expression without a value
abbrev stuck : Tree
stuck = binary infixs.Divide (n 1) (n 0)

abbrev a : Tree
a = text (codes "a")

abbrev x : Tree
x = name (codes "x")

abbrev y : Tree
y = name (codes "y")

abbrev f : Tree
f = name (codes "f")

abbrev tuple_of : List Tree → Tree
tuple_of ts = tuple (trees ts)

abbrev set_with : List Tree → Tree
set_with ts = set_of (trees ts)

abbrev apply_to : List Tree → Tree → Tree
apply_to is g = index g (trees is)

abbrev to : Name → List Tree → Tree
to g ts = call g (trees ts)

abbrev pair_of : Tree → Tree → Tree
pair_of b c = tuple_of (b ∷ c ∷ [])

abbrev up_to : ℕ → Tree
up_to k = binary infixs.Range (n 1) (n k)

abbrev isin : Tree → Tree → Tree
isin = binary infixs.In

abbrev notin : Tree → Tree → Tree
notin = binary infixs.NotIn

abbrev TRUE : Option Data
TRUE = Some (boolean true)

abbrev FALSE : Option Data
FALSE = Some (boolean false)

abbrev int : ℕ → Data
int k = integer (pos k)

abbrev is : ℕ → Option Data
is k = Some (int k)

abbrev is_set : List Data → Option Data
is_set ms = Some (set (items ms))

abbrev empty : Data
empty = function no_pairs

abbrev seq1 : Data → Data
seq1 v = function (pair (int 1) v no_pairs)

abbrev seq2 : Data → Data → Data
seq2 v w = function (pair (int 1) v (pair (int 2) w no_pairs))

abbrev seq3 : Data → Data → Data → Data
seq3 u v w = function (pair (int 1) u (pair (int 2) v (pair (int 3) w no_pairs)))

abbrev rec1 : Name → Data → Data
rec1 k v = function (pair (string k) v no_pairs)

-- truth values
kleene : Rows nothing (
    (binary infixs.Or stuck yes, TRUE) ∷
    (binary infixs.Or yes stuck, TRUE) ∷
    (binary infixs.Or (n 1) yes, TRUE) ∷
    (binary infixs.Or no stuck, None) ∷
    (binary infixs.Or no no, FALSE) ∷
    (binary infixs.Or no (n 1), None) ∷
    (binary infixs.And stuck no, FALSE) ∷
    (binary infixs.And yes yes, TRUE) ∷
    (binary infixs.And yes (n 1), None) ∷
    (binary infixs.Implies stuck yes, TRUE) ∷
    (binary infixs.Implies no stuck, TRUE) ∷
    (binary infixs.Implies yes no, FALSE) ∷
    (binary infixs.Implies yes stuck, None) ∷
    (binary infixs.Iff no no, TRUE) ∷
    (binary infixs.Iff yes no, FALSE) ∷
    (binary infixs.Iff yes stuck, None) ∷
    (binary infixs.Iff no (n 1), None) ∷
    (unary prefixs.Not no, TRUE) ∷
    (unary prefixs.Not (n 0), None) ∷ [])
kleene = refl

-- values of any kinds
equality : Rows nothing (
    (binary infixs.Equal a (n 1), FALSE) ∷
    (binary infixs.Equal (set_with (n 2 ∷ n 1 ∷ [])) (up_to 2), TRUE) ∷
    (binary infixs.Differs yes a, TRUE) ∷
    (binary infixs.Equal stuck stuck, None) ∷
    (binary infixs.Equal (binary infixs.Equal stuck (n 1)) yes, None) ∷ [])
equality = refl

integers : Rows nothing (
    (binary infixs.Add (n 2) (n 3), is 5) ∷
    (binary infixs.Add greatest (n 1), None) ∷
    (binary infixs.Subtract least (n 1), None) ∷
    (binary infixs.Multiply (n 4294967296) (n 4294967296), None) ∷
    (binary infixs.Add (n 1) yes, None) ∷
    (unary prefixs.Minus (n 7), Some (integer (negsuc 6))) ∷
    (unary prefixs.Minus least, None) ∷
    (unary prefixs.Minus a, None) ∷
    (binary infixs.Divide (unary prefixs.Minus (n 7)) (n 2), Some (integer (negsuc 3))) ∷
    (unary prefixs.Minus (binary infixs.Divide (n 7) (n 2)), Some (integer (negsuc 2))) ∷
    (binary infixs.Divide (unary prefixs.Minus (n 6)) (n 2), Some (integer (negsuc 2))) ∷
    (binary infixs.Modulo (unary prefixs.Minus (n 7)) (n 2), is 1) ∷
    (binary infixs.Modulo (unary prefixs.Minus (n 6)) (n 2), is 0) ∷
    (binary infixs.Modulo (n 7) (n 4), is 3) ∷
    (binary infixs.Divide (n 1) (n 0), None) ∷
    (binary infixs.Divide (n 4) (unary prefixs.Minus (n 2)), None) ∷
    (binary infixs.Modulo (n 1) (n 0), None) ∷
    (binary infixs.Modulo (n 4) (unary prefixs.Minus (n 3)), None) ∷
    (binary infixs.Divide a (n 1), None) ∷
    (binary infixs.Less (n 1) (n 2), TRUE) ∷
    (binary infixs.AtLeast (n 1) (n 2), FALSE) ∷
    (binary infixs.AtMost (n 2) (n 2), TRUE) ∷
    (binary infixs.Greater (n 2) (n 2), FALSE) ∷
    (binary infixs.Less (n 1) a, None) ∷
    (binary infixs.Range (unary prefixs.Minus (n 1)) (n 1), is_set (integer (negsuc 0) ∷ int 0 ∷ int 1 ∷ [])) ∷
    (binary infixs.Range (n 2) (n 1), is_set []) ∷
    (binary infixs.Range (n 1) a, None) ∷
    (binary infixs.Range (n 0) (n 65536), None) ∷
    (binary infixs.Range least greatest, None) ∷ [])
integers = refl

sets : Rows nothing (
    (set_with (n 2 ∷ n 1 ∷ n 2 ∷ []), is_set (int 1 ∷ int 2 ∷ [])) ∷
    (set_with (n 1 ∷ stuck ∷ []), None) ∷
    (binary infixs.Union (up_to 2) (set_with (n 3 ∷ n 1 ∷ [])), is_set (int 1 ∷ int 2 ∷ int 3 ∷ [])) ∷
    (binary infixs.Intersect (up_to 2) (set_with (n 2 ∷ n 3 ∷ [])), is_set (int 2 ∷ [])) ∷
    (binary infixs.Without (up_to 3) (set_with (n 2 ∷ n 4 ∷ [])), is_set (int 1 ∷ int 3 ∷ [])) ∷
    (binary infixs.SubsetEq (up_to 2) (up_to 3), TRUE) ∷
    (binary infixs.SubsetEq (up_to 3) (up_to 2), FALSE) ∷
    (binary infixs.Union (up_to 2) (n 1), None) ∷
    (binary infixs.Intersect (n 1) (up_to 2), None) ∷
    (binary infixs.Without (up_to 2) a, None) ∷
    (binary infixs.SubsetEq (set_with []) (n 1), None) ∷
    (unary prefixs.Powerset (up_to 2), is_set (set (items []) ∷ set (items (int 1 ∷ [])) ∷ set (items (int 2 ∷ [])) ∷ set (items (int 1 ∷ int 2 ∷ [])) ∷ [])) ∷
    (unary prefixs.Powerset (up_to 17), None) ∷
    (unary prefixs.Powerset (n 1), None) ∷
    (unary prefixs.Flatten (set_with (up_to 2 ∷ set_with (n 5 ∷ []) ∷ set_with [] ∷ [])), is_set (int 1 ∷ int 2 ∷ int 5 ∷ [])) ∷
    (unary prefixs.Flatten (up_to 2), None) ∷
    (unary prefixs.Flatten (n 1), None) ∷
    (word words.BooleanSet, is_set (boolean false ∷ boolean true ∷ [])) ∷
    (word words.Nat, None) ∷
    (filter_of (codes "x") (up_to 3) (binary infixs.Differs x (n 2)), is_set (int 1 ∷ int 3 ∷ [])) ∷
    (filter_of (codes "x") (up_to 3) x, None) ∷
    (filter_of (codes "x") (n 3) yes, None) ∷
    (image (binary infixs.Modulo x (n 2)) (codes "x") (up_to 3), is_set (int 0 ∷ int 1 ∷ [])) ∷
    (image (binary infixs.Divide (n 2) x) (codes "x") (binary infixs.Range (n 0) (n 1)), None) ∷
    (image x (codes "x") a, None) ∷ [])
sets = refl

-- sets of functions, as values
function_sets : Rows nothing (
    (fun_set (up_to 2) (up_to 1), is_set (seq2 (int 1) (int 1) ∷ [])) ∷
    (fun_set (set_with []) (up_to 2), is_set (empty ∷ [])) ∷
    (fun_set (up_to 1) (set_with []), is_set []) ∷
    (fun_set (set_with []) (n 5), None) ∷
    (fun_set (up_to 17) (binary infixs.Range (n 0) (n 1)), None) ∷
    (product (trees (up_to 2 ∷ set_with (a ∷ []) ∷ [])), is_set (seq2 (int 1) (string (codes "a")) ∷ seq2 (int 2) (string (codes "a")) ∷ [])) ∷
    (product (trees (up_to 1 ∷ up_to 1 ∷ up_to 1 ∷ [])), is_set (seq3 (int 1) (int 1) (int 1) ∷ [])) ∷
    (product (trees (up_to 1 ∷ n 2 ∷ [])), None) ∷
    (record_set (named ((codes "a", up_to 2) ∷ [])), is_set (rec1 (codes "a") (int 1) ∷ rec1 (codes "a") (int 2) ∷ [])) ∷
    (record_set (named ((codes "a", up_to 1) ∷ (codes "a", set_with []) ∷ [])), is_set (rec1 (codes "a") (int 1) ∷ [])) ∷
    (record_set (named ((codes "a", up_to 1) ∷ (codes "a", stuck) ∷ [])), None) ∷
    (record_set (named ((codes "a", n 1) ∷ [])), None) ∷ [])
function_sets = refl

-- at the right of `\in` some sets are not built, at the right of `\notin` all are
membership : Rows nothing (
    (isin (n 5) (binary infixs.Range (n 0) greatest), TRUE) ∷
    (isin a (binary infixs.Range (n 0) greatest), FALSE) ∷
    (isin (n 5) (binary infixs.Range (n 0) a), None) ∷
    (notin (n 5) (binary infixs.Range (n 0) greatest), None) ∷
    (notin (n 5) (up_to 4), TRUE) ∷
    (isin (n 1) (n 2), None) ∷
    (notin (n 1) (n 2), None) ∷
    (isin stuck (up_to 2), None) ∷
    (isin a (up_to 2), FALSE) ∷
    (isin (number (negsuc 0)) (word words.Nat), FALSE) ∷
    (isin (number (negsuc 0)) (word words.Int), TRUE) ∷
    (isin a (word words.Int), FALSE) ∷
    (isin a (word words.StringSet), TRUE) ∷
    (isin no (word words.BooleanSet), TRUE) ∷
    (isin stuck (word words.Nat), None) ∷
    (notin (n 1) (word words.Nat), None) ∷
    (isin (up_to 3) (unary prefixs.Powerset (up_to 100)), TRUE) ∷
    (isin (up_to 3) (unary prefixs.Powerset (up_to 2)), FALSE) ∷
    (isin (n 1) (unary prefixs.Powerset (up_to 2)), FALSE) ∷
    (isin (n 1) (unary prefixs.Powerset (n 2)), None) ∷
    (isin (set_with (n 1 ∷ [])) (unary prefixs.Powerset (word words.Nat)), None) ∷
    (notin (up_to 3) (unary prefixs.Powerset (up_to 2)), TRUE) ∷
    (notin (up_to 3) (unary prefixs.Powerset (up_to 100)), None) ∷
    (isin (pair_of (n 7) (n 9)) (fun_set (up_to 2) (up_to 1000)), TRUE) ∷
    (isin (pair_of (n 7) (n 0)) (fun_set (up_to 2) (up_to 1000)), FALSE) ∷
    (isin (pair_of (n 7) (n 9)) (fun_set (up_to 3) (up_to 1000)), FALSE) ∷
    (isin (n 7) (fun_set (up_to 2) (up_to 1000)), FALSE) ∷
    (isin (pair_of (n 7) (n 9)) (fun_set (up_to 2) (word words.Nat)), None) ∷
    (isin (tuple_of []) (fun_set (set_with []) (n 1)), None) ∷
    (isin (set_with []) (binary infixs.Union (unary prefixs.Powerset (up_to 100)) (set_with [])), None) ∷
    (isin (pair_of (n 300) a) (product (trees (up_to 300 ∷ set_with (a ∷ []) ∷ []))), TRUE) ∷
    (isin (pair_of a a) (product (trees (up_to 300 ∷ set_with (a ∷ []) ∷ []))), FALSE) ∷
    (isin (tuple_of (n 1 ∷ [])) (product (trees (up_to 2 ∷ up_to 2 ∷ []))), FALSE) ∷
    (isin (pair_of (n 1) a) (product (trees (up_to 2 ∷ a ∷ []))), None) ∷
    (isin (record_of (named ((codes "b", n 2) ∷ (codes "a", n 1) ∷ []))) (record_set (named ((codes "a", up_to 300) ∷ (codes "b", up_to 300) ∷ []))), TRUE) ∷
    (isin (record_of (named ((codes "a", n 1) ∷ []))) (record_set (named ((codes "a", up_to 300) ∷ (codes "b", up_to 300) ∷ []))), FALSE) ∷
    (isin (record_of (named ((codes "a", n 2) ∷ []))) (record_set (named ((codes "a", up_to 1) ∷ (codes "a", up_to 2) ∷ []))), FALSE) ∷
    (isin (n 1) (record_set (named ((codes "a", n 1) ∷ []))), None) ∷ [])
membership = refl

functions : Rows nothing (
    (apply_to (n 2 ∷ []) (pair_of (n 5) (n 6)), is 6) ∷
    (apply_to (n 3 ∷ []) (pair_of (n 5) (n 6)), None) ∷
    (apply_to (stuck ∷ []) (pair_of (n 5) (n 6)), None) ∷
    (apply_to (n 1 ∷ []) a, None) ∷
    (apply_to (n 1 ∷ []) (n 1), None) ∷
    (fun_of (bound ((codes "x" ∷ [], up_to 2) ∷ [])) (binary infixs.Multiply x x), Some (seq2 (int 1) (int 4))) ∷
    (fun_of (bound ((codes "x" ∷ [], binary infixs.Range (n 0) (n 1)) ∷ [])) (binary infixs.Divide (n 1) x), None) ∷
    (fun_of (bound ((codes "x" ∷ [], n 1) ∷ [])) (n 1), None) ∷
    (fun_of (bound ((codes "x" ∷ codes "y" ∷ [], up_to 1) ∷ [])) (binary infixs.Add x y), Some (function (pair (seq2 (int 1) (int 1)) (int 2) no_pairs))) ∷
    (apply_to (n 2 ∷ n 3 ∷ []) (fun_of (bound ((codes "x" ∷ [], up_to 3) ∷ (codes "y" ∷ [], up_to 3) ∷ [])) (binary infixs.Subtract x y)), Some (integer (negsuc 0))) ∷
    (apply_to (pair_of (n 2) (n 3) ∷ []) (fun_of (bound ((codes "x" ∷ codes "y" ∷ [], up_to 3) ∷ [])) (binary infixs.Subtract x y)), Some (integer (negsuc 0))) ∷
    (fun_of (bound ((codes "x" ∷ codes "y" ∷ [], up_to 300) ∷ [])) x, None) ∷
    (record_of (named ((codes "a", n 1) ∷ (codes "a", n 2) ∷ [])), Some (rec1 (codes "a") (int 1))) ∷
    (record_of (named ((codes "a", n 1) ∷ (codes "a", stuck) ∷ [])), None) ∷
    (field (record_of (named ((codes "b", n 2) ∷ (codes "a", n 1) ∷ []))) (codes "b"), is 2) ∷
    (field (record_of (named ((codes "b", n 2) ∷ []))) (codes "a"), None) ∷
    (field (n 1) (codes "a"), None) ∷
    (unary prefixs.Domain (pair_of a a), is_set (int 1 ∷ int 2 ∷ [])) ∷
    (unary prefixs.Domain a, None) ∷
    (binary infixs.Single a (n 1), Some (rec1 (codes "a") (int 1))) ∷
    (binary infixs.Single (n 1) stuck, None) ∷
    (binary infixs.Merge (binary infixs.Single (n 1) (n 5)) (pair_of (n 7) (n 8)), Some (seq2 (int 5) (int 8))) ∷
    (binary infixs.Merge (n 1) (pair_of (n 7) (n 8)), None) ∷
    (binary infixs.Merge (pair_of (n 7) (n 8)) (n 1), None) ∷ [])
functions = refl

abbrev changed : Tree → List (List Tree × Tree) → Tree
changed g us = except g (paths us)

changes : Rows nothing (
    (changed (pair_of (n 5) (n 6)) ((n 2 ∷ [], n 0) ∷ []), Some (seq2 (int 5) (int 0))) ∷
    (changed (pair_of (n 5) (n 6)) ((n 9 ∷ [], n 0) ∷ []), Some (seq2 (int 5) (int 6))) ∷
    (changed (pair_of (n 5) (n 6)) ((n 9 ∷ [], stuck) ∷ []), None) ∷
    (changed (pair_of (n 5) (n 6)) ((n 9 ∷ [], at) ∷ []), None) ∷
    (changed (pair_of (n 5) (n 6)) ((n 1 ∷ [], binary infixs.Add at (n 1)) ∷ []), Some (seq2 (int 6) (int 6))) ∷
    (changed (pair_of (n 5) (n 6)) ((n 1 ∷ [], n 7) ∷ (n 1 ∷ [], binary infixs.Add at at) ∷ []), Some (seq2 (int 14) (int 6))) ∷
    (changed (pair_of (n 5) (n 6)) ((stuck ∷ [], n 7) ∷ []), None) ∷
    (changed (pair_of (pair_of (n 1) (n 2)) (n 6)) ((n 1 ∷ n 2 ∷ [], n 0) ∷ []), Some (seq2 (seq2 (int 1) (int 0)) (int 6))) ∷
    (changed (pair_of (pair_of (n 1) (n 2)) (n 6)) ((n 1 ∷ n 3 ∷ [], n 0) ∷ []), Some (seq2 (seq2 (int 1) (int 2)) (int 6))) ∷
    (changed (pair_of (n 5) (n 6)) ((n 9 ∷ n 1 ∷ [], n 0) ∷ []), Some (seq2 (int 5) (int 6))) ∷
    (changed (pair_of (n 5) (n 6)) ((n 9 ∷ stuck ∷ [], n 0) ∷ []), None) ∷
    (changed (pair_of (n 5) (n 6)) ((n 1 ∷ n 1 ∷ [], n 0) ∷ []), None) ∷
    (changed (n 5) ((n 1 ∷ [], n 0) ∷ []), None) ∷
    (changed (record_of (named ((codes "a", n 1) ∷ []))) ((a ∷ [], n 2) ∷ []), Some (rec1 (codes "a") (int 2))) ∷
    (changed (pair_of (n 5) (n 6)) ((n 1 ∷ [], changed (pair_of at (n 3)) ((n 2 ∷ [], at) ∷ [])) ∷ []), Some (seq2 (seq2 (int 5) (int 3)) (int 6))) ∷
    (at, None) ∷ [])
changes = refl

sequences : Rows nothing (
    (to (codes "Len") (pair_of a a ∷ []), is 2) ∷
    (to (codes "Len") (tuple_of [] ∷ []), is 0) ∷
    (to (codes "Len") (a ∷ []), None) ∷
    (to (codes "Len") (binary infixs.Single (n 0) a ∷ []), None) ∷
    (to (codes "Len") (pair_of a a ∷ a ∷ []), None) ∷
    (to (codes "Head") (pair_of (n 5) (n 6) ∷ []), is 5) ∷
    (to (codes "Head") (tuple_of [] ∷ []), None) ∷
    (to (codes "Head") (n 1 ∷ []), None) ∷
    (to (codes "Tail") (pair_of (n 5) (n 6) ∷ []), Some (seq1 (int 6))) ∷
    (to (codes "Tail") (tuple_of [] ∷ []), None) ∷
    (to (codes "Append") (pair_of (n 5) (n 6) ∷ n 7 ∷ []), Some (seq3 (int 5) (int 6) (int 7))) ∷
    (to (codes "Append") (n 1 ∷ n 7 ∷ []), None) ∷
    (to (codes "Append") (tuple_of [] ∷ stuck ∷ []), None) ∷
    (binary infixs.Concat (pair_of (n 5) (n 6)) (tuple_of (n 7 ∷ [])), Some (seq3 (int 5) (int 6) (int 7))) ∷
    (binary infixs.Concat a a, None) ∷
    (binary infixs.Concat (tuple_of []) (n 1), None) ∷
    (to (codes "SubSeq") (tuple_of (n 5 ∷ n 6 ∷ n 7 ∷ []) ∷ n 2 ∷ n 3 ∷ []), Some (seq2 (int 6) (int 7))) ∷
    (to (codes "SubSeq") (pair_of (n 5) (n 6) ∷ n 1 ∷ n 1 ∷ []), Some (seq1 (int 5))) ∷
    (to (codes "SubSeq") (pair_of (n 5) (n 6) ∷ n 9 ∷ least ∷ []), Some empty) ∷
    (to (codes "SubSeq") (pair_of (n 5) (n 6) ∷ n 0 ∷ n 1 ∷ []), None) ∷
    (to (codes "SubSeq") (pair_of (n 5) (n 6) ∷ n 2 ∷ n 3 ∷ []), None) ∷
    (to (codes "SubSeq") (pair_of (n 5) (n 6) ∷ n 1 ∷ greatest ∷ []), None) ∷
    (to (codes "SubSeq") (pair_of (n 5) (n 6) ∷ a ∷ n 1 ∷ []), None) ∷
    (to (codes "SubSeq") (n 5 ∷ n 2 ∷ n 1 ∷ []), None) ∷ [])
sequences = refl

module_operators : Rows (scope_of ((codes "Len", is 3) ∷ []) [] None (Means (codes "Head") (codes "x" ∷ []) (n 4) ∷ [])) (
    (to (codes "Len") (pair_of a a ∷ []), is 2) ∷
    (to (codes "Head") (tuple_of (n 5 ∷ []) ∷ []), is 5) ∷
    (to (codes "Cardinality") (set_with (n 1 ∷ n 1 ∷ n 2 ∷ []) ∷ []), is 2) ∷
    (to (codes "Cardinality") (n 1 ∷ []), None) ∷
    (to (codes "Cardinality") (up_to 65536 ∷ []), is 65536) ∷
    (to (codes "Cardinality") (up_to 65537 ∷ []), None) ∷
    (to (codes "Assert") (yes ∷ stuck ∷ []), TRUE) ∷
    (to (codes "Assert") (no ∷ a ∷ []), None) ∷
    (to (codes "Assert") (n 1 ∷ a ∷ []), None) ∷
    (to (codes "Assert") (stuck ∷ a ∷ []), None) ∷
    (to (codes "Assert") (yes ∷ []), None) ∷
    (to (codes "PrintT") (no ∷ []), TRUE) ∷
    (to (codes "PrintT") (stuck ∷ []), None) ∷ [])
module_operators = refl

abbrev over : Quantifier → List (List Name × Tree) → Tree → Tree
over q bs = quantified q (bound bs)

-- `\E`, `\A` and CHOOSE
bound_names : Rows nothing (
    (over quantifiers.Exists ((codes "x" ∷ [], binary infixs.Range (n 0) (n 1)) ∷ []) (binary infixs.Equal (binary infixs.Divide (n 1) x) (n 1)), TRUE) ∷
    (over quantifiers.Forall ((codes "x" ∷ [], binary infixs.Range (n 0) (n 1)) ∷ []) (binary infixs.Equal (binary infixs.Divide (n 1) x) (n 1)), None) ∷
    (over quantifiers.Forall ((codes "x" ∷ [], binary infixs.Range (n 0) (n 1)) ∷ []) (binary infixs.Equal (binary infixs.Divide (n 1) x) (n 2)), FALSE) ∷
    (over quantifiers.Exists ((codes "x" ∷ [], binary infixs.Range (n 0) (n 1)) ∷ []) (binary infixs.Equal (binary infixs.Divide (n 1) x) (n 2)), None) ∷
    (over quantifiers.Exists ((codes "x" ∷ codes "y" ∷ [], up_to 2) ∷ []) (binary infixs.Less x y), TRUE) ∷
    (over quantifiers.Forall ((codes "x" ∷ [], up_to 2) ∷ (codes "y" ∷ [], up_to 2) ∷ []) (binary infixs.Less x y), FALSE) ∷
    (over quantifiers.Exists ((codes "x" ∷ [], set_with []) ∷ []) stuck, FALSE) ∷
    (over quantifiers.Forall ((codes "x" ∷ [], set_with []) ∷ []) stuck, TRUE) ∷
    (over quantifiers.Forall ((codes "x" ∷ [], set_with []) ∷ (codes "y" ∷ [], n 1) ∷ []) yes, None) ∷
    (over quantifiers.Exists ((codes "x" ∷ [], up_to 2) ∷ (codes "y" ∷ [], set_with (x ∷ [])) ∷ []) yes, None) ∷
    (over quantifiers.Exists ((codes "x" ∷ [], word words.Nat) ∷ []) yes, None) ∷
    (over quantifiers.Exists ((codes "x" ∷ [], up_to 2) ∷ []) x, None) ∷
    (choose (codes "x") (set_with (n 3 ∷ n 2 ∷ [])) (binary infixs.Greater x (n 1)), is 2) ∷
    (choose (codes "x") (up_to 3) (binary infixs.Equal (binary infixs.Divide (n 1) (binary infixs.Subtract (n 2) x)) (n 1)), is 1) ∷
    (choose (codes "x") (up_to 3) (binary infixs.Equal (binary infixs.Divide (n 6) (binary infixs.Subtract x (n 1))) (n 3)), None) ∷
    (choose (codes "x") (up_to 3) no, None) ∷
    (choose (codes "x") (set_with []) yes, None) ∷
    (choose (codes "x") (n 3) yes, None) ∷
    (choose (codes "x") (up_to 3) x, None) ∷ [])
bound_names = refl

choices : Rows nothing (
    (cond_of yes (n 1) stuck, is 1) ∷
    (cond_of no stuck (n 2), is 2) ∷
    (cond_of no (n 1) stuck, None) ∷
    (cond_of (n 1) (n 1) (n 1), None) ∷
    (case_of (arms ((no, stuck) ∷ (yes, n 2) ∷ (stuck, n 3) ∷ [])), is 2) ∷
    (case_of (arms ((stuck, n 1) ∷ (yes, n 2) ∷ [])), None) ∷
    (case_of (arms ((yes, stuck) ∷ (yes, n 2) ∷ [])), None) ∷
    (case_of (arms ((no, n 1) ∷ [])), None) ∷
    (case_other (arms ((no, n 1) ∷ [])) (n 3), is 3) ∷
    (case_other (arms ((yes, n 1) ∷ [])) stuck, is 1) ∷
    (case_other (arms ((stuck, n 1) ∷ [])) (n 3), None) ∷
    (let_in (named ((codes "x", n 2) ∷ (codes "y", binary infixs.Add x (n 1)) ∷ [])) (pair_of x y), Some (seq2 (int 2) (int 3))) ∷
    (let_in (named ((codes "x", stuck) ∷ [])) (n 1), is 1) ∷
    (let_in (named ((codes "x", stuck) ∷ [])) x, None) ∷
    (let_in (named ((codes "x", y) ∷ (codes "y", n 1) ∷ [])) x, None) ∷
    (let_in (named ((codes "x", n 1) ∷ [])) (to (codes "x") (n 1 ∷ [])), None) ∷ [])
choices = refl

-- x is 2 now and 3 next, y is 5 in both
abbrev steps : List Defined → Scope
steps = scope_of [] ((codes "x", int 2) ∷ (codes "y", int 5) ∷ []) (Some ((codes "x", int 3) ∷ (codes "y", int 5) ∷ []))

states : Rows (steps (Means (codes "f") [] (n 1) ∷ [])) (
    (x, is 2) ∷
    (primed (codes "x"), is 3) ∷
    (primed (codes "f"), None) ∷
    (let_in (named ((codes "x", n 9) ∷ [])) (pair_of x (primed (codes "x"))), Some (seq2 (int 9) (int 3))) ∷
    (unchanged (codes "y" ∷ []), TRUE) ∷
    (unchanged (codes "y" ∷ codes "x" ∷ []), FALSE) ∷
    (unchanged (codes "x" ∷ codes "f" ∷ []), None) ∷
    (to (codes "x") (n 1 ∷ []), None) ∷ [])
states = refl

no_next_state : Rows (scope_of [] ((codes "x", int 2) ∷ []) None []) (
    (x, is 2) ∷
    (primed (codes "x"), None) ∷
    (unchanged (codes "x" ∷ []), None) ∷ [])
no_next_state = refl

definitions : Rows (steps (
    Given (codes "N") (int 7) ∷
    Means (codes "before") [] (name (codes "f")) ∷
    Means (codes "f") [] (n 0) ∷
    Means (codes "f") [] (binary infixs.Add x (primed (codes "x"))) ∷
    Means (codes "after") [] f ∷
    Means (codes "x") [] (n 0) ∷
    Means (codes "outside") [] (name (codes "z")) ∷
    Means (codes "twice") (codes "x" ∷ []) (binary infixs.Multiply x (name (codes "N"))) ∷
    Means (codes "first") (codes "x" ∷ codes "z" ∷ []) x ∷
    Means (codes "again") (codes "x" ∷ []) (to (codes "again") (x ∷ [])) ∷
    Means (codes "itself") [] (name (codes "itself")) ∷
    Means (codes "counted") [] (n 1) ∷
    Means (codes "counted") [] (binary infixs.Add (name (codes "counted")) (n 1)) ∷
    Means (codes "part") [] at ∷ [])) (
    (x, is 2) ∷
    (f, is 5) ∷
    (name (codes "before"), None) ∷
    (name (codes "after"), is 5) ∷
    (name (codes "N"), is 7) ∷
    (to (codes "N") (n 1 ∷ []), None) ∷
    (let_in (named ((codes "z", n 1) ∷ [])) (name (codes "outside")), None) ∷
    (let_in (named ((codes "f", n 1) ∷ [])) f, is 1) ∷
    (let_in (named ((codes "f", n 1) ∷ [])) (name (codes "after")), is 5) ∷
    (to (codes "twice") (n 3 ∷ []), is 21) ∷
    (to (codes "twice") (n 3 ∷ n 4 ∷ []), None) ∷
    (name (codes "twice"), None) ∷
    (to (codes "f") (n 1 ∷ []), None) ∷
    (to (codes "first") (n 1 ∷ n 2 ∷ []), is 1) ∷
    (to (codes "first") (n 1 ∷ stuck ∷ []), None) ∷
    (to (codes "again") (n 1 ∷ []), None) ∷
    (name (codes "itself"), None) ∷
    (name (codes "counted"), is 2) ∷
    (changed (pair_of (n 5) (n 6)) ((n 1 ∷ [], name (codes "part")) ∷ []), None) ∷
    (name (codes "unknown"), None) ∷
    (to (codes "unknown") (n 1 ∷ []), None) ∷
    (name (codes "defaultInitValue"), Some (model (codes "defaultInitValue"))) ∷ [])
definitions = refl

-- of several of one name in scope the newest counts
newest : Rows (scope_of ((codes "x", is 1) ∷ (codes "x", is 2) ∷ []) ((codes "x", int 3) ∷ []) None []) (
    (x, is 1) ∷
    (choose (codes "x") (set_with (n 8 ∷ [])) (binary infixs.Equal x (n 8)), is 8) ∷
    (fun_of (bound ((codes "x" ∷ codes "x" ∷ [], up_to 1) ∷ [])) x, Some (function (pair (seq2 (int 1) (int 1)) (int 1) no_pairs))) ∷ [])
newest = refl

-- a set in a set, so many times
abbrev nested : ℕ → Data
nested zero = set (items [])
nested (suc k) = set (items (nested k ∷ []))

-- a value that is 2,047 deep may be put into one more set or function, and that one into no further
depths : Rows (scope_of ((codes "x", Some (nested 2046)) ∷ (codes "y", Some (nested 2047)) ∷ []) [] None []) (
    (set_with (x ∷ []), Some (nested 2047)) ∷
    (set_with (y ∷ []), None) ∷
    (tuple_of (x ∷ []), Some (seq1 (nested 2046))) ∷
    (tuple_of (y ∷ []), None) ∷
    (changed (tuple_of (n 1 ∷ [])) ((n 1 ∷ [], y) ∷ []), None) ∷
    (unary prefixs.Powerset y, None) ∷
    (isin x (unary prefixs.Powerset y), FALSE) ∷
    (isin (set_with []) (unary prefixs.Powerset y), TRUE) ∷
    (binary infixs.Single (n 1) y, None) ∷ [])
depths = refl
