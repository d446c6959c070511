-- The names in an expression are its own and those of its operands.
use Rattle.std.proofs.Common.{◌≡◌, Bool, true, false, List, [], ◌∷◌, ◌++◌, ap, ◌∙◌, sym, refl, append_assoc}
use Rattle.std.proofs.lemmas.List.{append-nil}
use Rattle.std.proofs.lemmas.List.Concat.{flat_map-append}
use Rattle.std.specs.Prelude.{◌||◌, flat_map}
use Rattle.std.specs.List.{list_any}
use denote.Ref.{Bor}
use Rattle.pgo_base.specs.declared.expr.Expr.{Expr}
use Rattle.pgo_base.specs.Lookup.{Name, same_name}
use Rattle.pgo_base.specs.Tree.{Tree, name, primed, number, text, truth, at, word, unary, binary, product, cond_of, case_of, case_other, let_in, quantified, choose, tuple, set_of, filter_of, image, fun_of, fun_set, record_of, record_set, except, index, field, call, unchanged, Trees, no_trees, more_trees, NamedTrees, no_named, more_named, TreePairs, no_arms, more_arms, BoundTrees, no_bound, more_bound, PathTrees, no_paths, more_paths}
use Rattle.pgo_model.specs.Occurrences.{names_in, names_in_all, names_in_named, names_in_arms, names_in_bound, names_in_paths}
use Rattle.pgo_operands.specs.Operands.{lent_trees, members, named_members, arm_members, bound_members, path_members, operands}
use Rattle.pgo_operands.specs.Mentions.{own_name, is_name, mentions}

all_names : (ts : Trees) → names_in_all ts ≡ flat_map names_in (members ts)
all_names no_trees = refl
all_names (more_trees t ts) = ap (λ l. names_in t ++ l) (all_names ts)

named_names : (ts : NamedTrees) → names_in_named ts ≡ flat_map names_in (named_members ts)
named_names no_named = refl
named_names (more_named x t ts) = ap (λ l. names_in t ++ l) (named_names ts)

arm_names : (gs : TreePairs) → names_in_arms gs ≡ flat_map names_in (arm_members gs)
arm_names no_arms = refl
arm_names (more_arms g e gs) = append_assoc (names_in g) (names_in e) (names_in_arms gs) ∙ ap (λ l. names_in g ++ (names_in e ++ l)) (arm_names gs)

bound_names : (bs : BoundTrees) → names_in_bound bs ≡ flat_map names_in (bound_members bs)
bound_names no_bound = refl
bound_names (more_bound xs r bs) = ap (λ l. names_in r ++ l) (bound_names bs)

path_names : (us : PathTrees) → names_in_paths us ≡ flat_map names_in (path_members us)
path_names no_paths = refl
path_names (more_paths ps e us) =
    append_assoc (names_in_all ps) (names_in e) (names_in_paths us)
    ∙ ap (λ l. names_in_all ps ++ (names_in e ++ l)) (path_names us)
    ∙ ap (λ l. l ++ (names_in e ++ flat_map names_in (path_members us))) (all_names ps)
    ∙ sym (flat_map-append names_in (members ps) (e ∷ path_members us))

two : (a b : List Name) → a ++ b ≡ a ++ (b ++ [])
two a b = ap (λ l. a ++ l) (sym (append-nil b))

last : (xs : List Tree) (ns : List Name) (e : Tree) → ns ≡ flat_map names_in xs → ns ++ names_in e ≡ flat_map names_in (xs ++ e ∷ [])
last xs ns e h = ap (λ l. l ++ names_in e) h ∙ ap (λ l. flat_map names_in xs ++ l) (sym (append-nil (names_in e))) ∙ sym (flat_map-append names_in xs (e ∷ []))

parts : (t : Tree) → names_in t ≡ own_name t ++ flat_map names_in (operands t)
parts (name x) = refl
parts (primed x) = refl
parts (number z) = refl
parts (text s) = refl
parts (truth b) = refl
parts at = refl
parts (word w) = refl
parts (unary o a) = sym (append-nil (names_in a))
parts (binary o a b) = two (names_in a) (names_in b)
parts (product ts) = all_names ts
parts (cond_of p a b) = append_assoc (names_in p) (names_in a) (names_in b) ∙ ap (λ l. names_in p ++ l) (two (names_in a) (names_in b))
parts (case_of gs) = arm_names gs
parts (case_other gs e) = last (arm_members gs) (names_in_arms gs) e (arm_names gs)
parts (let_in ds e) = last (named_members ds) (names_in_named ds) e (named_names ds)
parts (quantified q bs p) = last (bound_members bs) (names_in_bound bs) p (bound_names bs)
parts (choose x r p) = two (names_in r) (names_in p)
parts (tuple ts) = all_names ts
parts (set_of ts) = all_names ts
parts (filter_of x r p) = two (names_in r) (names_in p)
parts (image e x r) = two (names_in e) (names_in r)
parts (fun_of bs e) = last (bound_members bs) (names_in_bound bs) e (bound_names bs)
parts (fun_set a b) = two (names_in a) (names_in b)
parts (record_of ds) = named_names ds
parts (record_set ds) = named_names ds
parts (except f us) = ap (λ l. names_in f ++ l) (path_names us)
parts (index f ts) = ap (λ l. names_in f ++ l) (all_names ts)
parts (field r x) = sym (append-nil (names_in r))
parts (call x ts) = all_names ts
parts (unchanged xs) = refl

or_assoc : (a b c : Bool) → (a || b) || c ≡ a || (b || c)
or_assoc true b c = refl
or_assoc false b c = refl

any-append : {A : Type 0} (p : A → Bool) (xs ys : List A) → list_any p (xs ++ ys) ≡ list_any p xs || list_any p ys
any-append p [] ys = refl
any-append p (x ∷ xs) ys = ap (λ b. p x || b) (any-append p xs ys) ∙ sym (or_assoc (p x) (list_any p xs) (list_any p ys))

any-flat_map : {A B : Type 0} (p : B → Bool) (f : A → List B) (xs : List A) → list_any p (flat_map f xs) ≡ list_any (λ x. list_any p (f x)) xs
any-flat_map p f [] = refl
any-flat_map p f (x ∷ xs) = any-append p (f x) (flat_map f xs) ∙ ap (λ b. list_any p (f x) || b) (any-flat_map p f xs)

pub mentioned : (n : Name) (t : Tree) → mentions n t ≡ is_name n t || list_any (mentions n) (operands t)
mentioned n t =
    ap (list_any (same_name n)) (parts t)
    ∙ any-append (same_name n) (own_name t) (flat_map names_in (operands t))
    ∙ ap (λ b. is_name n t || b) (any-flat_map (same_name n) names_in (operands t))

pub unless_itself : (n : Name) (t : Tree) (es ks : List (Bor Expr)) (b : Bool) → es ≡ ks → lent_trees ks ≡ operands t → b ≡ is_name n t → b ≡ false
    → list_any (mentions n) (lent_trees es) ≡ mentions n t
unless_itself n t es ks b e h is other =
    ap (λ l. list_any (mentions n) (lent_trees l)) e ∙ ap (list_any (mentions n)) h
    ∙ ap (λ x. x || list_any (mentions n) (operands t)) (sym other ∙ is) ∙ sym (mentioned n t)
