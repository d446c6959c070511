-- The greatest height of the expressions of a specification's module is its height, which is counted without it.
use Rattle.std.proofs.Common.{◌≡◌, ℕ, suc, max, ◌≤◌, List, [], ◌∷◌, ◌++◌, map, Option, Some, None, refl, ap, sym, ◌∙◌, subst, arith}
use Rattle.std.specs.List.{flat_map}
use Rattle.pgo_base.specs.declared.expr.Infix.{Infix}
use Rattle.pgo_base.specs.declared.expr.Infix.TheVariants as infixs
use Rattle.pgo_base.specs.Lookup.{Name}
use Rattle.pgo_base.specs.Tree.{Tree, name, arms}
use Rattle.pgo_expr_read.proofs.Reach.{tall}
use Rattle.pgo_expr_read.specs.Heights.{height, arms_height}
use Rattle.pgo_model.specs.Module.{joined_by, all_of, any_of, union_of, process_body, process_step, proc_set_of, terminating_body, next_body, self_call}
use Rattle.pgo_model.specs.Val.{Defined, Given, Means}
use Rattle.pgo_model.specs.Written.{terminating}
use Rattle.pgo_syntax.specs.declared.binding.Origin.{Origin}
use Rattle.pgo_syntax.specs.declared.binding.Origin.TheVariants.{Equals, In}
use Rattle.pgo_syntax.specs.declared.declaration.Declaration.{Declaration}
use Rattle.pgo_syntax.specs.declared.declaration.Definition.{Definition}
use Rattle.pgo_syntax.specs.declared.process.Process.{Process}
use Rattle.pgo_syntax.specs.declared.spec.Spec.{Spec}
use Rattle.pgo_bound.specs.State.{variables_of}
use Rattle.pgo_bound.specs.Values.{define_of}
use Rattle.pgo_sections.specs.Expansion.{Expansion}
use Rattle.pgo_meaning.specs.Expansions.{process_expansions}
use Rattle.pgo_measure.specs.Heights.{all_joined, label_height}
use Rattle.pgo_pluscal.specs.PlusCalOf.{pluscal_of, process_of, ids_tree}
use Rattle.pgo_expand.specs.Module.{highest, joined, joined_behind, ids_height, start_height, own_in, global_item, own_item, own_items, ids_heights, place_item, all_definitions, definitions_heights, define_heights, call_height, globals_of, step_height, next_items, process_height, actions, labels_height, module_height}
use Rattle.pgo_translate.specs.ModuleOf.{module_of, definitions_of, global_starts, own_starts, places_start, process_starts, start_items, first_arm}
use Rattle.pgo_translate.proofs.ByProcess.{module_is, module_by, written_process, label_actions}
use Rattle.pgo_heights.specs.Expressions.{bodies, process_expressions, expressions_of, IsGreatestHeight}
use Rattle.pgo_heights.proofs.Actions.{Heights, none, one, heights_append, heights_map, joined_is, label_is}
use Rattle.pgo_heights.proofs.Greatest.{greatest, greatest_append, greatest_in}

-- ---- joined

same_joined : (k : ℕ) (hs : List ℕ) → joined_behind (Some k) hs ≡ all_joined (Some k) hs
same_joined k [] = refl
same_joined k (h ∷ hs) = same_joined (suc (max k h)) hs

behind : (o : Infix) (a : Tree) (k : ℕ) {ts : List Tree} {hs : List ℕ} → height a ≡ k → Heights ts hs → height (joined_by o a ts) ≡ joined_behind (Some k) hs
behind o a k {hs = hs} h d = joined_is o a k h d ∙ sym (same_joined k hs)

-- where there is none, the height is 1 and 0 is counted; so where 5 is counted besides, both are one
abbrev Alike : ℕ → ℕ → Type 0
Alike a b = max 5 a ≡ max 5 b

all_alike : {ts : List Tree} {hs : List ℕ} → Heights ts hs → Alike (height (all_of ts)) (joined hs)
all_alike none = omega arith
all_alike (one {t = t} {h = n} e d) = ap (λ k. max 5 k) (behind infixs.And t n e d)

any_alike : {ts : List Tree} {hs : List ℕ} → Heights ts hs → Alike (height (any_of ts)) (joined hs)
any_alike none = omega arith
any_alike (one {t = t} {h = n} e d) = ap (λ k. max 5 k) (behind infixs.Or t n e d)

union_alike : {ts : List Tree} {hs : List ℕ} → Heights ts hs → Alike (height (union_of ts)) (joined hs)
union_alike none = omega arith
union_alike (one {t = t} {h = n} e d) = ap (λ k. max 5 k) (behind infixs.Union t n e d)

-- ---- definitions

bodies_append : (xs ys : List Defined) → bodies (xs ++ ys) ≡ bodies xs ++ bodies ys
bodies_append [] ys = refl
bodies_append (Given x v ∷ xs) ys = bodies_append xs ys
bodies_append (Means x ps e ∷ xs) ys = ap (λ ts. e ∷ ts) (bodies_append xs ys)

definitions_are : (ds : List Definition) → greatest (bodies (definitions_of ds)) ≡ highest (definitions_heights ds)
definitions_are [] = refl
definitions_are (d ∷ ds) = ap (λ k. max (height d.body) k) (definitions_are ds)

define_is : (o : Option (List Definition)) → greatest (bodies (definitions_of (define_of o))) ≡ highest (define_heights o)
define_is None = refl
define_is (Some ds) = definitions_are ds

highest_append : (xs ys : List ℕ) → highest (xs ++ ys) ≡ max (highest xs) (highest ys)
highest_append [] ys = omega arith
highest_append (x ∷ xs) ys = omega (arith, highest_append xs ys)

all_definitions_are : (s : Spec) → greatest (bodies (definitions_of s.definitions ++ definitions_of (define_of s.define))) ≡ highest (all_definitions s)
all_definitions_are s =
    let ds = definitions_of s.definitions in
    let es = definitions_of (define_of s.define) in
    ap greatest (bodies_append ds es)
    ∙ greatest_append (bodies ds) (bodies es)
    ∙ ap (λ k. max k (greatest (bodies es))) (definitions_are s.definitions)
    ∙ ap (λ k. max (highest (definitions_heights s.definitions)) k) (define_is s.define)
    ∙ sym (highest_append (definitions_heights s.definitions) (define_heights s.define))

-- ---- Init

ids_is : (o : Origin) → height (ids_tree o) ≡ ids_height o
ids_is (Equals e) = omega arith
ids_is (In e) = refl

global_is : (d : Declaration) → height (global_starts d.name.name d.initial) ≡ global_item d
global_is d = go d.initial
  where
    go : (o : Option Origin) → height (global_starts d.name.name o) ≡ suc (start_height o)
    go None = omega arith
    go (Some (Equals e)) = omega (arith, tall e)
    go (Some (In e)) = omega (arith, tall e)

own_is : (ids : Tree) (n : ℕ) → height ids ≡ n → (d : Declaration) → height (own_starts ids d.name.name d.initial) ≡ own_item n (start_height d.initial)
own_is ids n h d = go d.initial
  where
    go : (o : Option Origin) → height (own_starts ids d.name.name o) ≡ own_item n (start_height o)
    go None = omega (arith, h)
    go (Some (Equals e)) = omega (arith, h)
    go (Some (In e)) = omega (arith, h)

abbrev ids_of : List Process → List ℕ
ids_of ps = map (λ p. ids_height p.ids) ps

abbrev first_arms : Spec → List Process → ℕ
first_arms s ps = arms_height (arms (map first_arm (map (process_of s) ps)))

-- an arm is higher than the identifiers, which are 1 or more
arm_is : (e n a h : ℕ) → e ≡ n → 1 ≤ e → max 1 a ≡ suc h → max (max (suc (max 1 e)) 1) a ≡ suc (max n h)
arm_is e n a h same some rest = omega (arith, same, some, rest)

at_least_one : (a h : ℕ) → a ≡ suc h → max 1 a ≡ suc h
at_least_one a h e = omega (arith, e)

some_arms : (s : Spec) (ps : List Process) → max 1 (first_arms s ps) ≡ suc (highest (ids_of ps))
some_arms s [] = refl
some_arms s (p ∷ ps) =
    at_least_one (first_arms s (p ∷ ps)) (highest (ids_of (p ∷ ps)))
    (arm_is (height (ids_tree p.ids)) (ids_height p.ids) (first_arms s ps) (highest (ids_of ps)) (ids_is p.ids) (tall (ids_tree p.ids)) (some_arms s ps))

arms_are : (s : Spec) (p : Process) (ps : List Process) → first_arms s (p ∷ ps) ≡ suc (highest (ids_of (p ∷ ps)))
arms_are s p ps = arm_is (height (ids_tree p.ids)) (ids_height p.ids) (first_arms s ps) (highest (ids_of ps)) (ids_is p.ids) (tall (ids_tree p.ids)) (some_arms s ps)

place_of : (a h : ℕ) → a ≡ suc h → suc (max 1 (suc (max (max 1 0) (suc a)))) ≡ suc (suc (suc (suc h)))
place_of a h e = omega (arith, e)

places_are : (s : Spec) (p : Process) (ps : List Process) → height (places_start (map (process_of s) (p ∷ ps))) ≡ place_item (ids_of (p ∷ ps))
places_are s p ps = place_of (first_arms s (p ∷ ps)) (highest (ids_of (p ∷ ps))) (arms_are s p ps)

owns_are : (s : Spec) (ps : List Process) → Heights (flat_map process_starts (map (process_of s) ps)) (flat_map (own_items s.archetypes) ps)
owns_are s [] = none
owns_are s (p ∷ ps) =
    heights_append (heights_map (λ d. own_starts (ids_tree p.ids) d.name.name d.initial) (λ d. own_item (ids_height p.ids) (start_height d.initial)) (own_is (ids_tree p.ids) (ids_height p.ids) (ids_is p.ids)) (own_in s.archetypes p))
    (owns_are s ps)

-- the items of Init: with these globals and these processes
abbrev starts : Spec → List Declaration → List Process → List Tree
starts s gs ps =
    map (λ d. global_starts d.name.name d.initial) gs ++ (places_start (map (process_of s) ps) ∷ []) ++ flat_map process_starts (map (process_of s) ps)

abbrev counted : Spec → List Declaration → List Process → List ℕ
counted s gs ps = map global_item gs ++ (place_item (ids_of ps) ∷ []) ++ flat_map (own_items s.archetypes) ps

last_is : (k : ℕ) (hs : List ℕ) (x : ℕ) → joined_behind (Some k) ((hs ++ x ∷ []) ++ []) ≡ suc (max (joined_behind (Some k) hs) x)
last_is k [] x = refl
last_is k (h ∷ hs) x = last_is (suc (max k h)) hs x

-- without a process the item of `pc` has height 3, and 4 is counted
three_or_four : (j : ℕ) → Alike (suc (max j 3)) (suc (max j 4))
three_or_four j = omega arith

last_alike : (hs : List ℕ) → Alike (joined ((hs ++ 3 ∷ []) ++ [])) (joined ((hs ++ 4 ∷ []) ++ []))
last_alike [] = refl
last_alike (h ∷ hs) =
    ap (λ k. max 5 k) (last_is h hs 3) ∙ three_or_four (joined_behind (Some h) hs) ∙ sym (ap (λ k. max 5 k) (last_is h hs 4))

init_alike : (s : Spec) (gs : List Declaration) (ps : List Process) → Alike (height (all_of (starts s gs ps))) (joined (counted s gs ps))
init_alike s gs [] =
    all_alike (heights_append (heights_append (heights_map (λ d. global_starts d.name.name d.initial) global_item global_is gs) (one {h = 3} (omega arith) none)) none)
    ∙ last_alike (map global_item gs)
init_alike s gs (p ∷ ps) =
    all_alike
    (heights_append (heights_append (heights_map (λ d. global_starts d.name.name d.initial) global_item global_is gs) (one (places_are s p ps) none)) (owns_are s (p ∷ ps)))

-- ---- processes

actions_are : (s : Spec) (ls : List (Name × Expansion)) → greatest (map (λ a. a.1) (label_actions s ls)) ≡ highest (map (λ t. label_height (variables_of s) (globals_of s) t.1) ls)
actions_are s [] = refl
actions_are s (l ∷ ls) = λ i. max (label_is (variables_of s) (globals_of s) l.0 l.1 i) (actions_are s ls i)

calls_are : (s : Spec) (ls : List (Name × Expansion)) → Heights (map (λ a. self_call a.0) (label_actions s ls)) (map (λ t. call_height) ls)
calls_are s [] = none
calls_are s (l ∷ ls) = one (omega arith) (calls_are s ls)

with_own : (a b o j : ℕ) → a ≡ b → Alike o j → Alike (max a (max o 0)) (max j b)
with_own a b o j e h = omega (arith, e, h)

with_more : (a b c d : ℕ) → Alike a b → Alike c d → Alike (max a c) (max b d)
with_more a b c d e h = omega (arith, e, h)

process_alike : (s : Spec) (p : Process) → Alike (greatest (process_expressions (written_process s p))) (labels_height s p)
process_alike s p =
    let ls = process_expansions s p in
    let own = process_body (written_process s p) in
    ap (λ k. max 5 k) (greatest_append (map (λ a. a.1) (label_actions s ls)) (own ∷ []))
    ∙ with_own (greatest (map (λ a. a.1) (label_actions s ls))) (highest (actions s p)) (height own) (process_height s p) (actions_are s ls) (any_alike (calls_are s ls))

processes_alike : (s : Spec) (ps : List Process) → Alike (greatest (flat_map process_expressions (map (written_process s) ps))) (highest (map (labels_height s) ps))
processes_alike s [] = refl
processes_alike s (p ∷ ps) =
    let own = process_expressions (written_process s p) in
    let rest = flat_map process_expressions (map (written_process s) ps) in
    ap (λ k. max 5 k) (greatest_append own rest)
    ∙ with_more (greatest own) (labels_height s p) (greatest rest) (highest (map (labels_height s) ps)) (process_alike s p) (processes_alike s ps)

sets_are : (s : Spec) (ps : List Process) → Heights (map (λ q. q.ids) (map (written_process s) ps)) (ids_of ps)
sets_are s [] = none
sets_are s (p ∷ ps) = one (ids_is p.ids) (sets_are s ps)

step_is : (a b : ℕ) → a ≡ b → suc (max (max a 0) (suc (max 1 0))) ≡ step_height b
step_is a b e = omega (arith, e)

steps_are : (s : Spec) (ps : List Process) → Heights (map process_step (map (written_process s) ps)) (map step_height (ids_of ps))
steps_are s [] = none
steps_are s (p ∷ ps) = one (step_is (height (ids_tree p.ids)) (ids_height p.ids) (ids_is p.ids)) (steps_are s ps)

-- ---- the whole

-- of definitions, sets, Init, processes and Next, and of Terminating, whose height is 5
abbrev whole : (d u i p n : ℕ) → ℕ
whole d u i p n = max (max (max d (max u (max i 0))) p) (max 5 (max n 0))

abbrev told : (d u i p n : ℕ) → ℕ
told d u i p n = max (max 5 (max u (max i (max n d)))) p

under : (x y r : ℕ) → Alike x y → 5 ≤ r → y ≤ r → x ≤ r
under x y r e five h = omega (arith, e, five, h)

whole_under : (d u i p n r : ℕ) → d ≤ r → u ≤ r → i ≤ r → p ≤ r → n ≤ r → 5 ≤ r → whole d u i p n ≤ r
whole_under d u i p n r a b c e f g = omega (arith, a, b, c, e, f, g)

told_under : (d u i p n r : ℕ) → d ≤ r → u ≤ r → i ≤ r → p ≤ r → n ≤ r → 5 ≤ r → told d u i p n ≤ r
told_under d u i p n r a b c e f g = omega (arith, a, b, c, e, f, g)

record Parts (d u i p n r : ℕ) : Type 0 where
  d_under : d ≤ r
  u_under : u ≤ r
  i_under : i ≤ r
  p_under : p ≤ r
  n_under : n ≤ r
  five_under : 5 ≤ r

whole_parts : (d u i p n : ℕ) → Parts d u i p n (whole d u i p n)
whole_parts d u i p n =
    record { d_under = omega arith; u_under = omega arith; i_under = omega arith; p_under = omega arith; n_under = omega arith; five_under = omega arith }

told_parts : (d u i p n : ℕ) → Parts d u i p n (told d u i p n)
told_parts d u i p n =
    record { d_under = omega arith; u_under = omega arith; i_under = omega arith; p_under = omega arith; n_under = omega arith; five_under = omega arith }

same : (a b : ℕ) → a ≤ b → b ≤ a → a ≡ b
same a b h k = omega (arith, h, k)

gathered : (d u v i j p q n m : ℕ) → Alike u v → Alike i j → Alike p q → Alike n m → whole d u i p n ≡ told d v j q m
gathered d u v i j p q n m eu ei ep en =
    let l = whole d u i p n in
    let r = told d v j q m in
    let a = told_parts d v j q m in
    let b = whole_parts d u i p n in
    same l r
    (whole_under d u i p n r a.d_under (under u v r eu a.five_under a.u_under) (under i j r ei a.five_under a.i_under) (under p q r ep a.five_under a.p_under) (under n m r en a.five_under a.n_under) a.five_under)
    (told_under d v j q m l b.d_under (under v u l (sym eu) b.five_under b.u_under) (under j i l (sym ei) b.five_under b.i_under) (under q p l (sym ep) b.five_under b.p_under) (under m n l (sym en) b.five_under b.n_under) b.five_under)

-- the lists of a module's expressions, one behind another
pub four_appended : (a b c e : List Tree) → greatest (a ++ b ++ c ++ e) ≡ max (max (max (greatest a) (greatest b)) (greatest c)) (greatest e)
four_appended a b c e =
    greatest_append (a ++ b ++ c) e
    ∙ ap (λ k. max k (greatest e)) (greatest_append (a ++ b) c ∙ ap (λ k. max k (greatest c)) (greatest_append a b))

-- with Init by the specification whose labels are expanded
own_heights : (s : Spec) → greatest (expressions_of (module_by s (all_of (start_items (pluscal_of s))))) ≡ module_height s
own_heights s =
    let m = module_by s (all_of (start_items (pluscal_of s))) in
    let ids = ids_heights s in
    four_appended (bodies m.definitions) (proc_set_of m ∷ m.init ∷ []) (flat_map process_expressions m.processes) (terminating_body m ∷ next_body m ∷ [])
    ∙ ap (λ k. max (max (max k (greatest (proc_set_of m ∷ m.init ∷ []))) (greatest (flat_map process_expressions m.processes))) (greatest (terminating_body m ∷ next_body m ∷ []))) (all_definitions_are s)
    ∙ gathered (highest (all_definitions s)) (height (proc_set_of m)) (joined ids) (height m.init) (joined (counted s s.globals s.processes)) (greatest (flat_map process_expressions m.processes)) (highest (map (labels_height s) s.processes)) (height (next_body m)) (joined (next_items ids))
    (union_alike (sets_are s s.processes)) (init_alike s s.globals s.processes) (processes_alike s s.processes)
    (any_alike (heights_append (steps_are s s.processes) (one {t = name terminating} {h = 1} refl none)))

pub module_heights : (s : Spec) → greatest (expressions_of (module_of s)) ≡ module_height s
module_heights s = subst (λ m. greatest (expressions_of m) ≡ module_height s) (module_is s) (own_heights s)

some_height : (a b : ℕ) → 1 ≤ max (max 5 a) b
some_height a b = omega arith

pub module_has_height : (s : Spec) → IsGreatestHeight (module_of s) (module_height s)
module_has_height s = greatest_in (module_of s) (module_height s) (some_height (max (joined (ids_heights s)) (max (joined (counted s s.globals s.processes)) (max (joined (next_items (ids_heights s))) (highest (all_definitions s))))) (highest (map (labels_height s) s.processes))) (module_heights s)
