-- The arms of CASE, the definitions of LET, indices and arguments, gone over one by one.
use Rattle.std.proofs.Common.{◌≡◌, ℕ, suc, ◌<◌, ◌≤◌, ◌+◌, List, [], ◌∷◌, ◌++◌, length, map, get_or, drop, refl, ap, sym, ◌∙◌, arith, add-one, drop-cons}
use Rattle.std.specs.Prelude.{Option, Some, None, option_map, option_and_then}
use Rattle.std.proofs.lemmas.List.{drop_all}
use Rattle.pgo_base.specs.BindingsView.{onto, named_view}
use Rattle.pgo_base.specs.Data.{Data}
use Rattle.pgo_base.specs.declared.bindings.NamedValue.{NamedValue}
use Rattle.pgo_base.specs.declared.expr.Expr.{Expr}
use Rattle.pgo_base.specs.ExprView.{tree, named_tree, arm_tree}
use Rattle.pgo_base.specs.Lookup.{Name, Names}
use Rattle.pgo_base.specs.Tree.{trees, named, arms}
use Rattle.pgo_base.specs.View.{data_of}
use Rattle.pgo_model.specs.Operators.{both, sequence}
use Rattle.pgo_model.specs.Sequences.{assert}
use Rattle.pgo_model.specs.Val.{Scope, val, values_of, asserted, case_value, let_scope, with_names, index_of}
use Rattle.pgo_eval.proofs.Arguments.{names_more}

-- no arm is left
pub arms_done : (gs : List (Expr × Expr)) (i : ℕ) (s : Scope) (o : Option Data) → length gs ≤ i → case_value (arms (map arm_tree (drop i gs))) s o ≡ o
arms_done gs i s o h = ap (λ rest. case_value (arms (map arm_tree rest)) s o) (drop_all i gs h)

-- the scope of the definitions that are left
abbrev pub left_scope : List (Name × Expr) → ℕ → List NamedValue → Names → Scope → Scope
left_scope ds i defined ns s = let_scope (named (map named_tree (drop i ds))) (with_names (onto (map named_view defined) ns) s)

-- one definition of LET more
pub let_more : (all : Scope) (ds : List (Name × Expr)) (i : ℕ) (d : Name × Expr) (defined next : List NamedValue) (n : NamedValue) (ns : Names) (s : Scope) → i < length ds → d ≡ get_or ds i d → next ≡ defined ++ n ∷ [] → n.name ≡ d.0 → option_map data_of n.value ≡ val (tree d.1) (with_names (onto (map named_view defined) ns) s) → all ≡ left_scope ds i defined ns s → all ≡ left_scope ds (i + 1) next ns s
let_more all ds i d defined next n ns s h e m x v inv =
    let inner = with_names (onto (map named_view defined) ns) s in
    let split : drop i ds ≡ d ∷ drop (i + 1) ds = drop-cons ds i d h ∙ ap (λ y. y ∷ drop (suc i) ds) (sym e) ∙ ap (λ k. d ∷ drop k ds) (sym (add-one i)) in
    let names : onto (map named_view next) ns ≡ (d.0, val (tree d.1) inner) ∷ onto (map named_view defined) ns =
    ap (λ list. onto (map named_view list) ns) m ∙ names_more defined n ns ∙ (λ j. (x j, v j) ∷ onto (map named_view defined) ns) in
    inv
    ∙ ap (λ rest. let_scope (named (map named_tree rest)) inner) split
    ∙ ap (λ list. let_scope (named (map named_tree (drop (i + 1) ds))) (with_names list s)) (sym names)

-- no definition of LET is left
pub let_done : (all : Scope) (ds : List (Name × Expr)) (i : ℕ) (defined : List NamedValue) (ns : Names) (s : Scope) → length ds ≤ i → all ≡ left_scope ds i defined ns s → all ≡ with_names (onto (map named_view defined) ns) s
let_done all ds i defined ns s h inv = inv ∙ ap (λ rest. let_scope (named (map named_tree rest)) (with_names (onto (map named_view defined) ns) s)) (drop_all i ds h)

-- several indices are a tuple
pub several : (ts : List Expr) (s : Scope) → 2 ≤ length ts → option_and_then sequence (values_of (trees (map tree ts)) s) ≡ option_and_then index_of (values_of (trees (map tree ts)) s)
several [] s h = absurd (omega arith)
several (t ∷ []) s h = absurd (omega arith)
several (t ∷ u ∷ ts) s h = go (val (tree t) s) (val (tree u) s) (values_of (trees (map tree ts)) s)
  where
    cons : Data → List Data → Option (List Data)
    cons v vs = Some (v ∷ vs)

    go : (p q : Option Data) (r : Option (List Data)) → option_and_then sequence (both (λ v vs. Some (v ∷ vs)) p (both (λ v vs. Some (v ∷ vs)) q r)) ≡ option_and_then index_of (both (λ v vs. Some (v ∷ vs)) p (both (λ v vs. Some (v ∷ vs)) q r))
    go None q r = refl
    go (Some v) None r = refl
    go (Some v) (Some w) None = refl
    go (Some v) (Some w) (Some vs) = refl

-- Assert with two arguments
pub assert_two : (ts : List Expr) (t : Expr) (s : Scope) → length ts ≡ 2 → t ≡ get_or ts 0 t → asserted (trees (map tree ts)) s ≡ assert (val (tree t) s)
assert_two [] t s h e = absurd (omega (arith, h))
assert_two (u ∷ []) t s h e = absurd (omega (arith, h))
assert_two (u ∷ v ∷ []) t s h e = ap (λ (x : Expr). assert (val (tree x) s)) (sym e)
assert_two (u ∷ v ∷ w ∷ ts) t s h e = absurd (omega (arith, h))

-- Assert with another number of arguments
pub assert_other : (ts : List Expr) (s : Scope) → (length ts ≡ 2 → ⊥) → asserted (trees (map tree ts)) s ≡ None
assert_other [] s h = refl
assert_other (u ∷ []) s h = refl
assert_other (u ∷ v ∷ []) s h = absurd (h (omega arith))
assert_other (u ∷ v ∷ w ∷ ts) s h = refl
