-- The free names of an expression are its own and those of its operands.
use Rattle.std.proofs.Common.{◌≡◌, ◌∙◌, ◌<◌, ◌+◌, ℕ, suc, true, false, nat_lt, List, [], ◌∷◌, ◌++◌, length, take, refl, ap, sym, append_assoc, arith}
use Rattle.std.specs.Prelude.{if◌then◌else◌}
use Rattle.std.proofs.lemmas.List.{append-nil, length-append}
use Rattle.std.proofs.Math.Seq.{take-append_seam, take-length}
use Rattle.pgo_base.specs.Lookup.{Name}
use Rattle.pgo_base.specs.Tree.{Tree, name, unary, binary, product, cond_of, case_of, case_other, let_in, quantified, choose, tuple, set_of, filter_of, image, fun_of, fun_set, record_of, record_set, except, index, field, call, Trees, no_trees, more_trees, NamedTrees, no_named, more_named, TreePairs, no_arms, more_arms, BoundTrees, no_bound, more_bound, PathTrees, no_paths, more_paths}
use Rattle.pgo_operands.specs.Operands.{operands, members, named_members, arm_members, bound_members, path_members}
use Rattle.pgo_sections.specs.Bound.{names_of, names_bound, below}
use Rattle.pgo_sections.specs.FreeNames.{free_names, free_names_all, free_names_fields, free_names_let, free_names_arms, free_names_bound, free_names_paths}
use Rattle.pgo_rewrite.specs.Scoped.{names_by, count_bound, at_body, under_at}
use Rattle.pgo_lower.specs.Gathered.{own_names, part_names}

below_more : (pre : List Name) (x : Name) (under : List Name) → below (pre ++ x ∷ []) under ≡ x ∷ below pre under
below_more [] x under = refl
below_more (y ∷ ys) x under = below_more ys x (y ∷ under)

is_below : (i n : ℕ) → i < n → nat_lt i n ≡ true
is_below i n h = grind (arith, h)

not_below : (n : ℕ) → nat_lt n n ≡ false
not_below n = grind arith

one_longer : (n : ℕ) (pre : List Name) (x : Name) → n ≡ length pre → suc n ≡ length (pre ++ x ∷ [])
one_longer n pre x k = omega (arith, k, length-append pre (x ∷ []))

around_at : (around : ℕ → List Name) (under ns pre rest : List Name) (i : ℕ) → ((j : ℕ) → around j ≡ below (take j ns) under) → ns ≡ pre ++ rest → i ≡ length pre → below pre under ≡ around i
around_at around under ns pre rest i is s n = sym (is i ∙ ap (λ l. below l under) ((λ z. take (n z) (s z)) ∙ take-append_seam pre rest))

-- with the same names around each operand
abbrev parts : List Name → ℕ → List Tree → List Name
parts under i ts = part_names (λ j. under) i ts

one : (l : List Name) → l ≡ l ++ []
one l = sym (append-nil l)

members_names : (under : List Name) (ts : Trees) (i : ℕ) → free_names_all under ts ≡ parts under i (members ts)
members_names under no_trees i = refl
members_names under (more_trees t ts) i = ap (λ l. free_names under t ++ l) (members_names under ts (suc i))

members_front : (under : List Name) (ts : Trees) (rest : List Tree) (f : List Name) (i : ℕ) → ((j : ℕ) → f ≡ parts under j rest) → free_names_all under ts ++ f ≡ parts under i (members ts ++ rest)
members_front under no_trees rest f i h = h i
members_front under (more_trees t ts) rest f i h =
    append_assoc (free_names under t) (free_names_all under ts) f ∙ ap (λ l. free_names under t ++ l) (members_front under ts rest f (suc i) h)

fields_names : (under : List Name) (ds : NamedTrees) (i : ℕ) → free_names_fields under ds ≡ parts under i (named_members ds)
fields_names under no_named i = refl
fields_names under (more_named x t ds) i = ap (λ l. free_names under t ++ l) (fields_names under ds (suc i))

arms_front : (under : List Name) (gs : TreePairs) (rest : List Tree) (i : ℕ) → free_names_arms under gs ++ parts under 0 rest ≡ parts under i (arm_members gs ++ rest)
arms_front under no_arms rest i = anywhere rest 0 i
  where
    anywhere : (ts : List Tree) (i j : ℕ) → parts under i ts ≡ parts under j ts
    anywhere [] i j = refl
    anywhere (t ∷ ts) i j = ap (λ l. free_names under t ++ l) (anywhere ts (suc i) (suc j))
arms_front under (more_arms g e gs) rest i =
    append_assoc (free_names under g ++ free_names under e) (free_names_arms under gs) (parts under 0 rest)
    ∙ append_assoc (free_names under g) (free_names under e) (free_names_arms under gs ++ parts under 0 rest)
    ∙ ap (λ l. free_names under g ++ (free_names under e ++ l)) (arms_front under gs rest (suc (suc i)))

arms_names : (under : List Name) (gs : TreePairs) (i : ℕ) → free_names_arms under gs ≡ parts under i (arm_members gs)
arms_names under gs i = one (free_names_arms under gs) ∙ arms_front under gs [] i ∙ ap (parts under i) (append-nil (arm_members gs))

paths_names : (under : List Name) (us : PathTrees) (i : ℕ) → free_names_paths under us ≡ parts under i (path_members us)
paths_names under no_paths i = refl
paths_names under (more_paths ps e us) i =
    append_assoc (free_names_all under ps) (free_names under e) (free_names_paths under us)
    ∙ members_front under ps (e ∷ path_members us) (free_names under e ++ free_names_paths under us) i (λ j. ap (λ l. free_names under e ++ l) (paths_names under us (suc j)))

bound_front : (around : ℕ → List Name) (under : List Name) (bs : BoundTrees) (p : Tree) (i n : ℕ) → ((j : ℕ) → j < n → under ≡ around j) → i + count_bound bs ≡ n
    → free_names_bound under bs ++ free_names (around n) p ≡ part_names around i (bound_members bs ++ p ∷ [])
bound_front around under no_bound p i n same here =
    let e : n ≡ i = omega (arith, here) in ap (λ j. free_names (around j) p) e ∙ one (free_names (around i) p)
bound_front around under (more_bound xs r bs) p i n same here =
    let low : i < n = omega (arith, here) in
    append_assoc (free_names under r) (free_names_bound under bs) (free_names (around n) p)
    ∙ (λ z. free_names (same i low z) r ++ bound_front around under bs p (suc i) n same (omega (arith, here)) z)

let_front : (around : ℕ → List Name) (under ns pre : List Name) (ds : NamedTrees) (e : Tree) (i : ℕ) → ((j : ℕ) → around j ≡ below (take j ns) under) → ns ≡ pre ++ names_of ds → i ≡ length pre
    → free_names_let (below pre under) ds ++ free_names (below (names_of ds) (below pre under)) e ≡ part_names around i (named_members ds ++ e ∷ [])
let_front around under ns pre no_named e i is split at' =
    ap (λ u. free_names u e) (around_at around under ns pre [] i is split at') ∙ one (free_names (around i) e)
let_front around under ns pre (more_named x t ds) e i is split at' =
    let inner = below pre under in
    append_assoc (free_names inner t) (free_names_let (x ∷ inner) ds) (free_names (below (names_of ds) (x ∷ inner)) e)
    ∙ ap (λ u. free_names inner t ++ (free_names_let u ds ++ free_names (below (names_of ds) u) e)) (sym (below_more pre x under))
    ∙ ap (λ l. free_names inner t ++ l) (let_front around under ns (pre ++ x ∷ []) ds e (suc i) is (split ∙ sym (append_assoc pre (x ∷ []) (names_of ds))) (one_longer i pre x at'))
    ∙ ap (λ u. free_names u t ++ part_names around (suc i) (named_members ds ++ e ∷ [])) (around_at around under ns pre (x ∷ names_of ds) i is split at')

body_names : (under : List Name) (bs : BoundTrees) (p : Tree)
    → free_names_bound under bs ++ free_names (below (names_bound bs) under) p
    ≡ part_names (λ i. below (take (at_body (count_bound bs) (length (names_bound bs)) i) (names_bound bs)) under) 0 (bound_members bs ++ p ∷ [])
body_names under bs p =
    let ns = names_bound bs in
    let n = count_bound bs in
    ap (λ u. free_names_bound under bs ++ free_names u p) (sym ((λ z. below (take (if not_below n z then 0 else length ns) ns) under) ∙ ap (λ l. below l under) (take-length ns)))
    ∙ bound_front (λ i. below (take (at_body n (length ns) i) ns) under) under bs p 0 n
    (λ j low. sym (λ z. below (take (if is_below j n low z then 0 else length ns) ns) under)) (omega arith)

two : (a b : List Name) → a ++ b ≡ a ++ (b ++ [])
two a b = ap (λ l. a ++ l) (one b)

three : (a b c : List Name) → a ++ b ++ c ≡ a ++ (b ++ (c ++ []))
three a b c = append_assoc a b c ∙ ap (λ l. a ++ (b ++ l)) (one c)

walked : (under : List Name) (t : Tree) → free_names under t ≡ own_names under t ++ part_names (under_at t (names_by t) under) 0 (operands t)
walked under (name x) = one (free_names under (name x))
walked under (unary o a) = one (free_names under a)
walked under (binary o a b) = two (free_names under a) (free_names under b)
walked under (product ts) = members_names under ts 0
walked under (cond_of p a b) = three (free_names under p) (free_names under a) (free_names under b)
walked under (case_of gs) = arms_names under gs 0
walked under (case_other gs e) = ap (λ l. free_names_arms under gs ++ l) (one (free_names under e)) ∙ arms_front under gs (e ∷ []) 0
walked under (let_in ds e) = let_front (under_at (let_in ds e) (names_of ds) under) under (names_of ds) [] ds e 0 (λ j. refl) refl refl
walked under (quantified q bs p) = body_names under bs p
walked under (choose x r p) = two (free_names under r) (free_names (x ∷ under) p)
walked under (tuple ts) = members_names under ts 0
walked under (set_of ts) = members_names under ts 0
walked under (filter_of x r p) = two (free_names under r) (free_names (x ∷ under) p)
walked under (image e x r) = two (free_names (x ∷ under) e) (free_names under r)
walked under (fun_of bs e) = body_names under bs e
walked under (fun_set a b) = two (free_names under a) (free_names under b)
walked under (record_of ds) = fields_names under ds 0
walked under (record_set ds) = fields_names under ds 0
walked under (except f us) = ap (λ l. free_names under f ++ l) (paths_names under us 1)
walked under (index f ts) = ap (λ l. free_names under f ++ l) (members_names under ts 1)
walked under (field r x) = one (free_names under r)
walked under (call x ts) = members_names under ts 0
walked under t = refl

-- with lists that are the names and the operands
pub all_walked : (under ns : List Name) (t : Tree) (ls : List Tree) → ns ≡ names_by t → ls ≡ operands t → free_names under t ≡ own_names under t ++ part_names (under_at t ns under) 0 ls
all_walked under ns t ls e h = walked under t ∙ sym (λ i. own_names under t ++ part_names (under_at t (e i) under) 0 (h i))
