-- How high the expressions of the module of a specification are: no higher than its height, which is counted without it.
use Rattle.std.proofs.Common.{◌≡◌, ℕ, suc, max, ◌≤◌, List, [], ◌∷◌, ◌++◌, map, Option, Some, None, refl, ap, sym, subst, arith}
use Rattle.std.specs.List.{AllByRecursion, flat_map}
use Rattle.pgo_base.specs.declared.expr.Infix.{Infix}
use Rattle.pgo_base.specs.declared.expr.Infix.TheVariants as infixs
use Rattle.pgo_base.specs.Lookup.{Name}
use Rattle.pgo_base.specs.Tree.{Tree, name, arms, case_of}
use Rattle.pgo_model.specs.Module.{joined_by, all_of, any_of, union_of, process_step, self_call}
use Rattle.pgo_model.specs.Written.{terminating}
use Rattle.pgo_syntax.specs.declared.binding.Origin.{Origin}
use Rattle.pgo_syntax.specs.declared.binding.Origin.TheVariants.{Equals, In}
use Rattle.pgo_syntax.specs.declared.declaration.Declaration.{Declaration}
use Rattle.pgo_syntax.specs.declared.declaration.Definition.{Definition}
use Rattle.pgo_syntax.specs.declared.process.Process.{Process}
use Rattle.pgo_syntax.specs.declared.spec.Spec.{Spec}
use Rattle.pgo_bound.specs.State.{variables_of}
use Rattle.pgo_bound.specs.Values.{define_of}
use Rattle.pgo_expr_read.specs.Heights.{height}
use Rattle.pgo_sections.specs.Expansion.{Expansion}
use Rattle.pgo_meaning.specs.Expansions.{process_expansions}
use Rattle.pgo_measure.specs.Heights.{all_joined, label_height}
use Rattle.pgo_pluscal.specs.PlusCalOf.{pluscal_of, process_of, ids_tree}
use Rattle.pgo_pluscal.specs.declared.pluscal.ExpandedProcess.{ExpandedProcess}
use Rattle.pgo_expand.specs.Module.{highest, joined, joined_behind, ids_height, start_height, own_in, global_item, own_item, own_items, ids_heights, place_item, init_items, definitions_heights, define_heights, call_height, globals_of, step_height, labels_height, module_height}
use Rattle.pgo_translate.specs.ModuleOf.{module_of, definitions_of, global_starts, own_starts, places_start, process_starts, start_items, first_arm}
use Rattle.pgo_translate.specs.Items.{action_body}
use Rattle.pgo_translate.proofs.ByProcess.{module_is, written_process, label_actions, global_names}
use Rattle.pgo_agrees.proofs.EachToken as each_token
use Rattle.pgo_written.specs.Low.{IsLow, IsLowDefinition, IsLowProcess}
use Rattle.pgo_written.proofs.Heights.{Below, none, one, below_append, below_map, joined_low, least, label_low}

-- ---- joined

same_joined : (k : ℕ) (hs : List ℕ) → joined_behind (Some k) hs ≡ all_joined (Some k) hs
same_joined k [] = refl
same_joined k (h ∷ hs) = same_joined (suc (max k h)) hs

behind : (o : Infix) (a : Tree) (k : ℕ) {ts : List Tree} {hs : List ℕ} → height a ≤ k → Below ts hs → height (joined_by o a ts) ≤ joined_behind (Some k) hs
behind o a k {ts = ts} {hs = hs} h d = subst (λ n. height (joined_by o a ts) ≤ n) (sym (same_joined k hs)) (joined_low o a k h d)

-- where there is none, the height is 1
all_joined_low : {ts : List Tree} {hs : List ℕ} → Below ts hs → height (all_of ts) ≤ max 1 (joined hs)
all_joined_low none = omega arith
all_joined_low (one {t = t} {h = n} e d) = omega (arith, behind infixs.And t n e d)

any_joined_low : {ts : List Tree} {hs : List ℕ} → Below ts hs → height (any_of ts) ≤ max 1 (joined hs)
any_joined_low none = omega arith
any_joined_low (one {t = t} {h = n} e d) = omega (arith, behind infixs.Or t n e d)

union_low : {ts : List Tree} {hs : List ℕ} → Below ts hs → height (union_of ts) ≤ max 1 (joined hs)
union_low none = omega arith
union_low (one {t = t} {h = n} e d) = omega (arith, behind infixs.Union t n e d)

-- ---- lists

each_low : {A : Type 0} (f : A → ℕ) (k : ℕ) (xs : List A) → highest (map f xs) ≤ k → AllByRecursion (λ x. f x ≤ k) xs
each_low f k [] h = tt
each_low f k (x ∷ xs) h = (omega (arith, h), each_low f k xs (omega (arith, h)))

-- of what is mapped
all_mapped : {A B : Type 0} (P : A → Type 0) (Q : B → Type 0) (f : A → B) → ((a : A) → P a → Q (f a)) → (xs : List A) → AllByRecursion P xs → AllByRecursion Q (map f xs)
all_mapped P Q f g [] h = tt
all_mapped P Q f g (x ∷ xs) h = (g x h.0, all_mapped P Q f g xs h.1)

highest_append : (xs ys : List ℕ) → highest (xs ++ ys) ≡ max (highest xs) (highest ys)
highest_append [] ys = omega arith
highest_append (x ∷ xs) ys = omega (arith, highest_append xs ys)

-- ---- definitions

definitions_low : (k : ℕ) (ds : List Definition) → highest (definitions_heights ds) ≤ k → AllByRecursion (IsLowDefinition k) (definitions_of ds)
definitions_low k [] h = tt
definitions_low k (d ∷ ds) h = (omega (arith, h), definitions_low k ds (omega (arith, h)))

define_low : (k : ℕ) (o : Option (List Definition)) → highest (define_heights o) ≤ k → AllByRecursion (IsLowDefinition k) (definitions_of (define_of o))
define_low k None h = tt
define_low k (Some ds) h = definitions_low k ds h

-- ---- Init

ids_low : (o : Origin) → height (ids_tree o) ≤ ids_height o
ids_low (Equals e) = omega arith
ids_low (In e) = omega arith

global_low : (d : Declaration) → height (global_starts d.name.name d.initial) ≤ global_item d
global_low d = go d.initial
  where
    go : (o : Option Origin) → height (global_starts d.name.name o) ≤ suc (start_height o)
    go None = omega arith
    go (Some (Equals e)) = omega (arith, least e)
    go (Some (In e)) = omega (arith, least e)

own_low : (ids : Tree) (n : ℕ) → height ids ≤ n → (d : Declaration) → height (own_starts ids d.name.name d.initial) ≤ own_item n (start_height d.initial)
own_low ids n h d = go d.initial
  where
    go : (o : Option Origin) → height (own_starts ids d.name.name o) ≤ own_item n (start_height o)
    go None = omega (arith, h)
    go (Some (Equals e)) = omega (arith, h)
    go (Some (In e)) = omega (arith, h)

arms_low : (ps : List ExpandedProcess) (ns : List ℕ) → Below (map (λ q. q.ids) ps) ns → height (case_of (arms (map first_arm ps))) ≤ suc (suc (highest ns))
arms_low [] ns d = omega arith
arms_low (p ∷ ps) ns (one e d) = omega (arith, e, arms_low ps _ d, least p.ids)

sets_below : (s : Spec) (ps : List Process) → Below (map (λ q. q.ids) (map (process_of s) ps)) (map (λ p. ids_height p.ids) ps)
sets_below s [] = none
sets_below s (p ∷ ps) = one (ids_low p.ids) (sets_below s ps)

places_low : (s : Spec) → height (places_start (map (process_of s) s.processes)) ≤ place_item (ids_heights s)
places_low s = omega (arith, arms_low (map (process_of s) s.processes) (ids_heights s) (sets_below s s.processes))

owns_below : (s : Spec) (ps : List Process) → Below (flat_map process_starts (map (process_of s) ps)) (flat_map (own_items s.archetypes) ps)
owns_below s [] = none
owns_below s (p ∷ ps) =
    below_append (below_map (λ d. own_starts (ids_tree p.ids) d.name.name d.initial) (λ d. own_item (ids_height p.ids) (start_height d.initial)) (own_low (ids_tree p.ids) (ids_height p.ids) (ids_low p.ids)) (own_in s.archetypes p))
    (owns_below s ps)

starts_below : (s : Spec) → Below (start_items (pluscal_of s)) (init_items s)
starts_below s =
    below_append (below_append (below_map (λ d. global_starts d.name.name d.initial) global_item global_low s.globals) (one (places_low s) none))
    (owns_below s s.processes)

-- ---- processes

abbrev action_of : Spec → Name × Expansion → Tree
action_of s l = action_body (variables_of s) (global_names s) l.0 l.1

action_low : (s : Spec) (k : ℕ) (l : Name × Expansion) → label_height (variables_of s) (globals_of s) l.1 ≤ k → height (action_of s l) ≤ k
action_low s k l h = let e = label_low (variables_of s) (globals_of s) l.0 l.1 in omega (arith, h, e)

calls_below : (as' : List (Name × Tree)) (ls : List (Name × Expansion)) → map (λ a. a.0) as' ≡ map (λ l. l.0) ls → Below (map (λ a. self_call a.0) as') (map (λ t. call_height) ls)
calls_below [] [] e = none
calls_below (a ∷ as') (l ∷ ls) e = one (omega arith) (calls_below as' ls cc)
calls_below [] (l ∷ ls) e = absurd (cc)
calls_below (a ∷ as') [] e = absurd (cc)

same_names : (s : Spec) (ls : List (Name × Expansion)) → map (λ a. a.0) (label_actions s ls) ≡ map (λ l. l.0) ls
same_names s [] = refl
same_names s (l ∷ ls) = ap (λ xs. l.0 ∷ xs) (same_names s ls)

process_low : (s : Spec) (k : ℕ) → 1 ≤ k → (p : Process) → labels_height s p ≤ k → IsLowProcess k (written_process s p)
process_low s k some p h =
    let ls = process_expansions s p in
    let own = any_joined_low (calls_below (label_actions s ls) ls (same_names s ls)) in
    let each = each_low (λ t. label_height (variables_of s) (globals_of s) t.1) k ls (omega (arith, h)) in
    record {
      actions = all_mapped (λ t. label_height (variables_of s) (globals_of s) t.1 ≤ k) (λ a. height a.1 ≤ k) (λ l. (l.0, action_of s l)) (action_low s k) ls each;
      own = omega (arith, own, h, some);
    }

steps_below : (s : Spec) (ps : List Process) → Below (map process_step (map (written_process s) ps)) (map step_height (map (λ p. ids_height p.ids) ps))
steps_below s [] = none
steps_below s (p ∷ ps) = one (let e = ids_low p.ids in omega (arith, e)) (steps_below s ps)

own_sets_below : (s : Spec) (ps : List Process) → Below (map (λ q. q.ids) (map (written_process s) ps)) (map (λ p. ids_height p.ids) ps)
own_sets_below s [] = none
own_sets_below s (p ∷ ps) = one (ids_low p.ids) (own_sets_below s ps)

-- ---- the module

pub module_low : (s : Spec) (k : ℕ) → module_height s ≤ k → IsLow k (module_of s)
module_low s k h =
    let parts = highest_append (definitions_heights s.definitions) (define_heights s.define) in
    let sets = union_low (own_sets_below s s.processes) in
    let init = all_joined_low (starts_below s) in
    let next = any_joined_low (below_append (steps_below s s.processes) (one {t = name terminating} {h = 1} (omega arith) none)) in
    let each = each_low (labels_height s) k s.processes (omega (arith, h)) in
    subst (IsLow k) (module_is s) (record {
      definitions = each_token.all_joined (IsLowDefinition k) (definitions_of s.definitions) (definitions_of (define_of s.define)) (definitions_low k s.definitions (omega (arith, h, parts))) (define_low k s.define (omega (arith, h, parts)));
      sets = omega (arith, sets, h);
      init = omega (arith, init, h);
      processes = all_mapped (λ p. labels_height s p ≤ k) (IsLowProcess k) (written_process s) (process_low s k (omega (arith, h))) s.processes each;
      ending = omega (arith, h);
      next = omega (arith, next, h);
    })
