-- The names of binders with their sets, from the first binder on.
use Rattle.std.proofs.Common.{◌≡◌, ℕ, ◌<◌, ◌+◌, List, [], ◌∷◌, ◌++◌, length, map, get_or, drop, refl, ap, sym, ◌∙◌, add-one, drop-cons, append_assoc}
use Rattle.std.specs.Prelude.{Bool, true, false, if◌then◌else◌, Option, Some, None, option_map, option_and_then}
use Rattle.pgo_base.specs.Data.{Data}
use Rattle.pgo_base.specs.Lookup.{Name}
use Rattle.pgo_base.specs.ExprView.{tree, bound_tree}
use Rattle.pgo_base.specs.Tree.{bound}
use Rattle.pgo_base.specs.declared.bindings.BoundName.{BoundName}
use Rattle.pgo_base.specs.declared.expr.Expr.{Expr}
use Rattle.pgo_model.specs.Operators.{both, members_of}
use Rattle.pgo_model.specs.Val.{Scope, val, ranges, over_each}
use Rattle.pgo_eval.specs.Choices.{over_bound}

over_each_rest : (xs : List Name) (ms : List Data) (rest : List (Name × List Data)) → over_each xs ms rest ≡ over_each xs ms [] ++ rest
over_each_rest [] ms rest = refl
over_each_rest (x ∷ xs) ms rest = ap (λ os. (x, ms) ∷ os) (over_each_rest xs ms rest)

-- the next binder's set
abbrev pub set_at : List Name × Expr → Scope → Option (List Data)
set_at b s = option_and_then members_of (val (tree b.1) s)

next_range : (bs : List (List Name × Expr)) (i : ℕ) (b : List Name × Expr) (s : Scope) → i < length bs → b ≡ get_or bs i b → ranges (bound (map bound_tree (drop i bs))) s ≡ both (λ ms rest. Some (over_each b.0 ms rest)) (set_at b s) (ranges (bound (map bound_tree (drop (i + 1) bs))) s)
next_range bs i b s h e =
    ap (λ xs. ranges (bound (map bound_tree xs)) s) (drop-cons bs i b h ∙ (λ j. sym e j ∷ drop (sym (add-one i) j) bs))

-- one binder more is done, or has no set
pub ranges_more : (bs : List (List Name × Expr)) (i : ℕ) (b : List Name × Expr) (s : Scope) (all : Option (List (Name × List Data))) (done next : List BoundName) (is_set : Bool) → i < length bs → b ≡ get_or bs i b → option_map (λ ms. over_bound done ++ over_each b.0 ms []) (set_at b s) ≡ (if is_set then Some (over_bound next) else None) → all ≡ option_map (λ os. over_bound done ++ os) (ranges (bound (map bound_tree (drop i bs))) s) → all ≡ (if is_set then option_map (λ os. over_bound next ++ os) (ranges (bound (map bound_tree (drop (i + 1) bs))) s) else None)
ranges_more bs i b s all done next is_set h e f a =
    a ∙ ap (option_map (λ os. over_bound done ++ os)) (next_range bs i b s h e) ∙ by_set (set_at b s) is_set f (ranges (bound (map bound_tree (drop (i + 1) bs))) s)
  where
    joined : (ms : List Data) (rest : List (Name × List Data)) → over_bound done ++ over_each b.0 ms [] ≡ over_bound next → over_bound done ++ over_each b.0 ms rest ≡ over_bound next ++ rest
    joined ms rest k =
        ap (λ os. over_bound done ++ os) (over_each_rest b.0 ms rest) ∙ sym (append_assoc (over_bound done) (over_each b.0 ms []) rest) ∙ ap (λ os. os ++ rest) k

    by_set : (o : Option (List Data)) (is_set : Bool) → option_map (λ ms. over_bound done ++ over_each b.0 ms []) o ≡ (if is_set then Some (over_bound next) else None) → (r : Option (List (Name × List Data))) → option_map (λ os. over_bound done ++ os) (both (λ ms rest. Some (over_each b.0 ms rest)) o r) ≡ (if is_set then option_map (λ os. over_bound next ++ os) r else None)
    by_set None true k r = absurd (cc)
    by_set None false k r = refl
    by_set (Some ms) false k r = absurd (cc)
    by_set (Some ms) true k None = refl
    by_set (Some ms) true k (Some rest) = let q : over_bound done ++ over_each b.0 ms [] ≡ over_bound next = cc in ap Some (joined ms rest q)
