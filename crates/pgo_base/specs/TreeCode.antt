-- An expression as a tree of numbers, by which a proof tells expressions apart.
use Rattle.std.specs.Prelude.{◌≡◌, ℕ, cond, ◌==◌, List, [], ◌∷◌, refl}
use Rattle.std.specs.Coded.{Coded, coded_list, coded×, coded_ℕ, code_by}
use base.Stored.{Gv, gnil, gnum, gcons}
use denote.Struct.Codes.{itself}
use Rattle.pgo_base.specs.declared.expr.Prefix.{Prefix}
use Rattle.pgo_base.specs.declared.expr.Infix.{Infix}
use Rattle.pgo_base.specs.declared.expr.Quantifier.{Quantifier}
use Rattle.pgo_base.specs.declared.expr.Word.{Word}
use Rattle.pgo_base.specs.declared.expr.Prefix.TheVariants as prefixs
use Rattle.pgo_base.specs.declared.expr.Infix.TheVariants as infixs
use Rattle.pgo_base.specs.declared.expr.Quantifier.TheVariants as quantifiers
use Rattle.pgo_base.specs.declared.expr.Word.TheVariants as words
use Rattle.pgo_base.specs.Code.{bit_tree, bit_of, bit_back, int_tree, int_of, int_back, text_tree, text_of, text_back, num_of}
use Rattle.pgo_base.specs.Tree.{Tree, name, primed, number, text, truth, at, word, unary, binary, product, cond_of, case_of, case_other, let_in, quantified, choose, tuple, set_of, filter_of, image, fun_of, fun_set, record_of, record_set, except, index, field, call, unchanged, Trees, no_trees, more_trees, NamedTrees, no_named, more_named, TreePairs, no_arms, more_arms, BoundTrees, no_bound, more_bound, PathTrees, no_paths, more_paths}

abbrev names_tree : List (List ℕ) → Gv
names_tree [] = gnil
names_tree (n ∷ ns) = gcons (text_tree n) (names_tree ns)

abbrev names_of : Gv → List (List ℕ)
names_of gnil = []
names_of (gnum n) = []
names_of (gcons a b) = text_of a ∷ names_of b

names_back : (ns : List (List ℕ)) → names_of (names_tree ns) ≡ ns
names_back [] = refl
names_back (n ∷ ns) = λ i. text_back n i ∷ names_back ns i

abbrev prefix_code : Prefix → Gv
prefix_code prefixs.Not = gnum 0
prefix_code prefixs.Minus = gnum 1
prefix_code prefixs.Powerset = gnum 2
prefix_code prefixs.Flatten = gnum 3
prefix_code prefixs.Domain = gnum 4

abbrev prefix_of : ℕ → Prefix
prefix_of n = cond (n == 0) (prefixs.Not) (cond (n == 1) (prefixs.Minus) (cond (n == 2) (prefixs.Powerset) (cond (n == 3) (prefixs.Flatten) (prefixs.Domain))))

prefix_back : (o : Prefix) → prefix_of (num_of (prefix_code o)) ≡ o
prefix_back prefixs.Not = refl
prefix_back prefixs.Minus = refl
prefix_back prefixs.Powerset = refl
prefix_back prefixs.Flatten = refl
prefix_back prefixs.Domain = refl

abbrev infix_code : Infix → Gv
infix_code infixs.Implies = gnum 0
infix_code infixs.Iff = gnum 1
infix_code infixs.And = gnum 2
infix_code infixs.Or = gnum 3
infix_code infixs.Equal = gnum 4
infix_code infixs.Differs = gnum 5
infix_code infixs.Less = gnum 6
infix_code infixs.Greater = gnum 7
infix_code infixs.AtMost = gnum 8
infix_code infixs.AtLeast = gnum 9
infix_code infixs.In = gnum 10
infix_code infixs.NotIn = gnum 11
infix_code infixs.SubsetEq = gnum 12
infix_code infixs.Merge = gnum 13
infix_code infixs.Single = gnum 14
infix_code infixs.Union = gnum 15
infix_code infixs.Intersect = gnum 16
infix_code infixs.Without = gnum 17
infix_code infixs.Range = gnum 18
infix_code infixs.Add = gnum 19
infix_code infixs.Subtract = gnum 20
infix_code infixs.Modulo = gnum 21
infix_code infixs.Multiply = gnum 22
infix_code infixs.Concat = gnum 23
infix_code infixs.Divide = gnum 24

abbrev infix_of : ℕ → Infix
infix_of n = cond (n == 0) (infixs.Implies) (cond (n == 1) (infixs.Iff) (cond (n == 2) (infixs.And) (cond (n == 3) (infixs.Or) (cond (n == 4) (infixs.Equal) (cond (n == 5) (infixs.Differs) (cond (n == 6) (infixs.Less) (cond (n == 7) (infixs.Greater) (cond (n == 8) (infixs.AtMost) (cond (n == 9) (infixs.AtLeast) (cond (n == 10) (infixs.In) (cond (n == 11) (infixs.NotIn) (cond (n == 12) (infixs.SubsetEq) (cond (n == 13) (infixs.Merge) (cond (n == 14) (infixs.Single) (cond (n == 15) (infixs.Union) (cond (n == 16) (infixs.Intersect) (cond (n == 17) (infixs.Without) (cond (n == 18) (infixs.Range) (cond (n == 19) (infixs.Add) (cond (n == 20) (infixs.Subtract) (cond (n == 21) (infixs.Modulo) (cond (n == 22) (infixs.Multiply) (cond (n == 23) (infixs.Concat) (infixs.Divide))))))))))))))))))))))))

infix_back : (o : Infix) → infix_of (num_of (infix_code o)) ≡ o
infix_back infixs.Implies = refl
infix_back infixs.Iff = refl
infix_back infixs.And = refl
infix_back infixs.Or = refl
infix_back infixs.Equal = refl
infix_back infixs.Differs = refl
infix_back infixs.Less = refl
infix_back infixs.Greater = refl
infix_back infixs.AtMost = refl
infix_back infixs.AtLeast = refl
infix_back infixs.In = refl
infix_back infixs.NotIn = refl
infix_back infixs.SubsetEq = refl
infix_back infixs.Merge = refl
infix_back infixs.Single = refl
infix_back infixs.Union = refl
infix_back infixs.Intersect = refl
infix_back infixs.Without = refl
infix_back infixs.Range = refl
infix_back infixs.Add = refl
infix_back infixs.Subtract = refl
infix_back infixs.Modulo = refl
infix_back infixs.Multiply = refl
infix_back infixs.Concat = refl
infix_back infixs.Divide = refl

abbrev quantifier_code : Quantifier → Gv
quantifier_code quantifiers.Exists = gnum 0
quantifier_code quantifiers.Forall = gnum 1

abbrev quantifier_of : ℕ → Quantifier
quantifier_of n = cond (n == 0) (quantifiers.Exists) (quantifiers.Forall)

quantifier_back : (o : Quantifier) → quantifier_of (num_of (quantifier_code o)) ≡ o
quantifier_back quantifiers.Exists = refl
quantifier_back quantifiers.Forall = refl

abbrev word_code : Word → Gv
word_code words.BooleanSet = gnum 0
word_code words.Nat = gnum 1
word_code words.Int = gnum 2
word_code words.StringSet = gnum 3

abbrev word_of : ℕ → Word
word_of n = cond (n == 0) (words.BooleanSet) (cond (n == 1) (words.Nat) (cond (n == 2) (words.Int) (words.StringSet)))

word_back : (o : Word) → word_of (num_of (word_code o)) ≡ o
word_back words.BooleanSet = refl
word_back words.Nat = refl
word_back words.Int = refl
word_back words.StringSet = refl

abbrev mutual
  pub tree_code : Tree → Gv
  tree_code (name x) = gcons (gnum 0) (gcons (text_tree x) (gcons gnil gnil))
  tree_code (primed x) = gcons (gnum 1) (gcons (text_tree x) (gcons gnil gnil))
  tree_code (number x) = gcons (gnum 2) (gcons (int_tree x) (gcons gnil gnil))
  tree_code (text x) = gcons (gnum 3) (gcons (text_tree x) (gcons gnil gnil))
  tree_code (truth x) = gcons (gnum 4) (gcons (bit_tree x) (gcons gnil gnil))
  tree_code at = gcons (gnum 5) (gcons gnil (gcons gnil gnil))
  tree_code (word x) = gcons (gnum 6) (gcons (word_code x) (gcons gnil gnil))
  tree_code (unary x y) = gcons (gnum 7) (gcons (prefix_code x) (gcons (tree_code y) gnil))
  tree_code (binary x y z) = gcons (gnum 8) (gcons (infix_code x) (gcons (tree_code y) (tree_code z)))
  tree_code (product x) = gcons (gnum 9) (gcons (trees_code x) (gcons gnil gnil))
  tree_code (cond_of x y z) = gcons (gnum 10) (gcons (tree_code x) (gcons (tree_code y) (tree_code z)))
  tree_code (case_of x) = gcons (gnum 11) (gcons (arms_code x) (gcons gnil gnil))
  tree_code (case_other x y) = gcons (gnum 12) (gcons (arms_code x) (gcons (tree_code y) gnil))
  tree_code (let_in x y) = gcons (gnum 13) (gcons (named_code x) (gcons (tree_code y) gnil))
  tree_code (quantified x y z) = gcons (gnum 14) (gcons (quantifier_code x) (gcons (bound_code y) (tree_code z)))
  tree_code (choose x y z) = gcons (gnum 15) (gcons (text_tree x) (gcons (tree_code y) (tree_code z)))
  tree_code (tuple x) = gcons (gnum 16) (gcons (trees_code x) (gcons gnil gnil))
  tree_code (set_of x) = gcons (gnum 17) (gcons (trees_code x) (gcons gnil gnil))
  tree_code (filter_of x y z) = gcons (gnum 18) (gcons (text_tree x) (gcons (tree_code y) (tree_code z)))
  tree_code (image x y z) = gcons (gnum 19) (gcons (tree_code x) (gcons (text_tree y) (tree_code z)))
  tree_code (fun_of x y) = gcons (gnum 20) (gcons (bound_code x) (gcons (tree_code y) gnil))
  tree_code (fun_set x y) = gcons (gnum 21) (gcons (tree_code x) (gcons (tree_code y) gnil))
  tree_code (record_of x) = gcons (gnum 22) (gcons (named_code x) (gcons gnil gnil))
  tree_code (record_set x) = gcons (gnum 23) (gcons (named_code x) (gcons gnil gnil))
  tree_code (except x y) = gcons (gnum 24) (gcons (tree_code x) (gcons (paths_code y) gnil))
  tree_code (index x y) = gcons (gnum 25) (gcons (tree_code x) (gcons (trees_code y) gnil))
  tree_code (field x y) = gcons (gnum 26) (gcons (tree_code x) (gcons (text_tree y) gnil))
  tree_code (call x y) = gcons (gnum 27) (gcons (text_tree x) (gcons (trees_code y) gnil))
  tree_code (unchanged x) = gcons (gnum 28) (gcons (names_tree x) (gcons gnil gnil))

  pub trees_code : Trees → Gv
  trees_code no_trees = gnil
  trees_code (more_trees t ts) = gcons (tree_code t) (trees_code ts)

  pub named_code : NamedTrees → Gv
  named_code no_named = gnil
  named_code (more_named n t ts) = gcons (text_tree n) (gcons (tree_code t) (named_code ts))

  pub arms_code : TreePairs → Gv
  arms_code no_arms = gnil
  arms_code (more_arms s t ts) = gcons (tree_code s) (gcons (tree_code t) (arms_code ts))

  pub bound_code : BoundTrees → Gv
  bound_code no_bound = gnil
  bound_code (more_bound ns t ts) = gcons (names_tree ns) (gcons (tree_code t) (bound_code ts))

  pub paths_code : PathTrees → Gv
  paths_code no_paths = gnil
  paths_code (more_paths ps t ts) = gcons (trees_code ps) (gcons (tree_code t) (paths_code ts))

-- one argument, read in every way
pub record Slot : Type 0 where
  pub raw : Gv
  pub tree : Tree
  pub trees : Trees
  pub named : NamedTrees
  pub arms : TreePairs
  pub bound : BoundTrees
  pub paths : PathTrees

abbrev build : ℕ → Slot → Slot → Slot → Tree
build n x y z = cond (n == 0) (name (text_of x.raw)) (cond (n == 1) (primed (text_of x.raw)) (cond (n == 2) (number (int_of x.raw)) (cond (n == 3) (text (text_of x.raw)) (cond (n == 4) (truth (bit_of x.raw)) (cond (n == 5) (at) (cond (n == 6) (word (word_of (num_of x.raw))) (cond (n == 7) (unary (prefix_of (num_of x.raw)) (y.tree)) (cond (n == 8) (binary (infix_of (num_of x.raw)) (y.tree) (z.tree)) (cond (n == 9) (product (x.trees)) (cond (n == 10) (cond_of (x.tree) (y.tree) (z.tree)) (cond (n == 11) (case_of (x.arms)) (cond (n == 12) (case_other (x.arms) (y.tree)) (cond (n == 13) (let_in (x.named) (y.tree)) (cond (n == 14) (quantified (quantifier_of (num_of x.raw)) (y.bound) (z.tree)) (cond (n == 15) (choose (text_of x.raw) (y.tree) (z.tree)) (cond (n == 16) (tuple (x.trees)) (cond (n == 17) (set_of (x.trees)) (cond (n == 18) (filter_of (text_of x.raw) (y.tree) (z.tree)) (cond (n == 19) (image (x.tree) (text_of y.raw) (z.tree)) (cond (n == 20) (fun_of (x.bound) (y.tree)) (cond (n == 21) (fun_set (x.tree) (y.tree)) (cond (n == 22) (record_of (x.named)) (cond (n == 23) (record_set (x.named)) (cond (n == 24) (except (x.tree) (y.paths)) (cond (n == 25) (index (x.tree) (y.trees)) (cond (n == 26) (field (x.tree) (text_of y.raw)) (cond (n == 27) (call (text_of x.raw) (y.trees)) (unchanged (names_of x.raw)))))))))))))))))))))))))))))

mutual
  pub tree_of : Gv → Tree
  tree_of (gcons k (gcons a (gcons b c))) = build (num_of k) (record { raw = a; tree = tree_of a; trees = trees_of a; named = named_of a; arms = arms_of a; bound = bound_of a; paths = paths_of a }) (record { raw = b; tree = tree_of b; trees = trees_of b; named = named_of b; arms = arms_of b; bound = bound_of b; paths = paths_of b }) (record { raw = c; tree = tree_of c; trees = trees_of c; named = named_of c; arms = arms_of c; bound = bound_of c; paths = paths_of c })
  tree_of _ = at

  pub trees_of : Gv → Trees
  trees_of (gcons a b) = more_trees (tree_of a) (trees_of b)
  trees_of _ = no_trees

  pub named_of : Gv → NamedTrees
  named_of (gcons a (gcons b c)) = more_named (text_of a) (tree_of b) (named_of c)
  named_of _ = no_named

  pub arms_of : Gv → TreePairs
  arms_of (gcons a (gcons b c)) = more_arms (tree_of a) (tree_of b) (arms_of c)
  arms_of _ = no_arms

  pub bound_of : Gv → BoundTrees
  bound_of (gcons a (gcons b c)) = more_bound (names_of a) (tree_of b) (bound_of c)
  bound_of _ = no_bound

  pub paths_of : Gv → PathTrees
  paths_of (gcons a (gcons b c)) = more_paths (trees_of a) (tree_of b) (paths_of c)
  paths_of _ = no_paths

mutual
  unfolding tree_of trees_of named_of arms_of bound_of paths_of

  pub tree_back : (t : Tree) → tree_of (tree_code t) ≡ t
  tree_back (name x) = λ i. name (text_back x i)
  tree_back (primed x) = λ i. primed (text_back x i)
  tree_back (number x) = λ i. number (int_back x i)
  tree_back (text x) = λ i. text (text_back x i)
  tree_back (truth x) = λ i. truth (bit_back x i)
  tree_back at = refl
  tree_back (word x) = λ i. word (word_back x i)
  tree_back (unary x y) = λ i. unary (prefix_back x i) (tree_back y i)
  tree_back (binary x y z) = λ i. binary (infix_back x i) (tree_back y i) (tree_back z i)
  tree_back (product x) = λ i. product (trees_back x i)
  tree_back (cond_of x y z) = λ i. cond_of (tree_back x i) (tree_back y i) (tree_back z i)
  tree_back (case_of x) = λ i. case_of (arms_back x i)
  tree_back (case_other x y) = λ i. case_other (arms_back x i) (tree_back y i)
  tree_back (let_in x y) = λ i. let_in (named_back x i) (tree_back y i)
  tree_back (quantified x y z) = λ i. quantified (quantifier_back x i) (bound_back y i) (tree_back z i)
  tree_back (choose x y z) = λ i. choose (text_back x i) (tree_back y i) (tree_back z i)
  tree_back (tuple x) = λ i. tuple (trees_back x i)
  tree_back (set_of x) = λ i. set_of (trees_back x i)
  tree_back (filter_of x y z) = λ i. filter_of (text_back x i) (tree_back y i) (tree_back z i)
  tree_back (image x y z) = λ i. image (tree_back x i) (text_back y i) (tree_back z i)
  tree_back (fun_of x y) = λ i. fun_of (bound_back x i) (tree_back y i)
  tree_back (fun_set x y) = λ i. fun_set (tree_back x i) (tree_back y i)
  tree_back (record_of x) = λ i. record_of (named_back x i)
  tree_back (record_set x) = λ i. record_set (named_back x i)
  tree_back (except x y) = λ i. except (tree_back x i) (paths_back y i)
  tree_back (index x y) = λ i. index (tree_back x i) (trees_back y i)
  tree_back (field x y) = λ i. field (tree_back x i) (text_back y i)
  tree_back (call x y) = λ i. call (text_back x i) (trees_back y i)
  tree_back (unchanged x) = λ i. unchanged (names_back x i)

  pub trees_back : (ts : Trees) → trees_of (trees_code ts) ≡ ts
  trees_back no_trees = refl
  trees_back (more_trees t ts) = λ i. more_trees (tree_back t i) (trees_back ts i)

  pub named_back : (ts : NamedTrees) → named_of (named_code ts) ≡ ts
  named_back no_named = refl
  named_back (more_named n t ts) = λ i. more_named (text_back n i) (tree_back t i) (named_back ts i)

  pub arms_back : (ts : TreePairs) → arms_of (arms_code ts) ≡ ts
  arms_back no_arms = refl
  arms_back (more_arms s t ts) = λ i. more_arms (tree_back s i) (tree_back t i) (arms_back ts i)

  pub bound_back : (ts : BoundTrees) → bound_of (bound_code ts) ≡ ts
  bound_back no_bound = refl
  bound_back (more_bound ns t ts) = λ i. more_bound (names_back ns i) (tree_back t i) (bound_back ts i)

  pub paths_back : (ts : PathTrees) → paths_of (paths_code ts) ≡ ts
  paths_back no_paths = refl
  paths_back (more_paths ps t ts) = λ i. more_paths (trees_back ps i) (tree_back t i) (paths_back ts i)

abbrev pub coded_tree : Coded Tree
coded_tree = code_by Gv itself tree_code tree_of tree_back

abbrev pub coded_name : Coded (List ℕ)
coded_name = coded_list coded_ℕ

abbrev pub coded_trees : Coded (List Tree)
coded_trees = coded_list coded_tree

abbrev pub coded_named : Coded (List (List ℕ × Tree))
coded_named = coded_list (coded× coded_name coded_tree)

abbrev pub coded_arms : Coded (List (Tree × Tree))
coded_arms = coded_list (coded× coded_tree coded_tree)

abbrev pub coded_bound : Coded (List (List (List ℕ) × Tree))
coded_bound = coded_list (coded× (coded_list coded_name) coded_tree)

abbrev pub coded_paths : Coded (List (List Tree × Tree))
coded_paths = coded_list (coded× coded_trees coded_tree)
