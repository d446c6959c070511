-- When an expression of a written module is TRUE: a conjunction, an equation, a choice from one value.
use Rattle.std.proofs.Common.{◌≡◌, Bool, true, false, [], ◌∷◌, Option, Some, None, ◌↔◌, refl, sym, ap, ◌∙◌, subst}
use Rattle.pgo_base.specs.declared.expr.Infix.TheVariants as infixs
use Rattle.pgo_base.specs.declared.expr.Quantifier.TheVariants as quantifiers
use Rattle.pgo_base.specs.Tree.{Tree, quantified, case_of, set_of, trees, bound, arms}
use Rattle.pgo_base.specs.Lookup.{Name}
use Rattle.pgo_base.specs.Data.{Data, boolean, integer, string, model, set, item, no_items, function}
use Rattle.pgo_bound.specs.Lookups.{same_of, same_itself}
use Rattle.pgo_model.specs.Operators.{or3, and3, truth_of, from_truth, any3, set_from, same_data}
use Rattle.pgo_model.specs.Val.{Scope, binary_value, with_name, decide, val}

-- a truth value as a value has that truth
pub truth_of-from : (p : Option Bool) → truth_of (from_truth p) ≡ p
truth_of-from None = refl
truth_of-from (Some b) = refl

-- it is TRUE exactly where the truth value is true
pub from_truth-yes : (p : Option Bool) → (from_truth p ≡ Some (boolean true)) ↔ (p ≡ Some true)
from_truth-yes p = (λ h. sym (truth_of-from p) ∙ ap truth_of h, λ h. ap from_truth h)

-- a value's truth is true exactly where it is TRUE
pub truth_of-yes : (o : Option Data) → (truth_of o ≡ Some true) ↔ (o ≡ Some (boolean true))
truth_of-yes o = (to o, λ h. ap truth_of h)
  where
    to : (o : Option Data) → truth_of o ≡ Some true → o ≡ Some (boolean true)
    to None h = absurd (cc)
    to (Some (boolean b)) h = ap from_truth h
    to (Some (integer z)) h = absurd (cc)
    to (Some (string x)) h = absurd (cc)
    to (Some (model x)) h = absurd (cc)
    to (Some (set xs)) h = absurd (cc)
    to (Some (function ps)) h = absurd (cc)

pub and3-yes : (p q : Option Bool) → (and3 p q ≡ Some true) ↔ ((p ≡ Some true) × (q ≡ Some true))
and3-yes (Some true) (Some true) = (λ h. (refl, refl), λ h. refl)
and3-yes (Some true) (Some false) = (λ h. absurd (cc), λ h. h.1)
and3-yes (Some true) None = (λ h. absurd (cc), λ h. h.1)
and3-yes (Some false) q = (λ h. absurd (cc), λ h. h.0)
and3-yes None (Some true) = (λ h. absurd (cc), λ h. h.0)
and3-yes None (Some false) = (λ h. absurd (cc), λ h. absurd (let k = h.0 in cc))
and3-yes None None = (λ h. absurd (cc), λ h. h.0)

-- a conjunction is TRUE exactly where both sides are
pub and-yes : (a b : Option Data) → (binary_value infixs.And a b ≡ Some (boolean true)) ↔ ((a ≡ Some (boolean true)) × (b ≡ Some (boolean true)))
and-yes a b = (to, from)
  where
    to : binary_value infixs.And a b ≡ Some (boolean true) → (a ≡ Some (boolean true)) × (b ≡ Some (boolean true))
    to h =
        let p = (and3-yes (truth_of a) (truth_of b)).0 ((from_truth-yes (and3 (truth_of a) (truth_of b))).0 h) in
        ((truth_of-yes a).0 p.0, (truth_of-yes b).0 p.1)

    from : (a ≡ Some (boolean true)) × (b ≡ Some (boolean true)) → binary_value infixs.And a b ≡ Some (boolean true)
    from p = λ i. binary_value infixs.And (p.0 i) (p.1 i)

-- an equation is TRUE exactly where both sides have one value
pub equal-yes : (o p : Option Data) → (binary_value infixs.Equal o p ≡ Some (boolean true)) ↔ ((v : Data) × (o ≡ Some v) × (p ≡ Some v))
equal-yes None p = (λ h. absurd (cc), λ h. absurd (let k = h.1 in cc))
equal-yes (Some v) None = (λ h. absurd (cc), λ h. absurd (let k = h.2 in cc))
equal-yes (Some v) (Some w) = (λ h. (v, refl, ap Some (sym (same_of v w (ap_truth h)))), λ h. from h.0 h.1 h.2)
  where
    ap_truth : Some (boolean (same_data v w)) ≡ Some (boolean true) → same_data v w ≡ true
    ap_truth h = cc

    from : (u : Data) → Some v ≡ Some u → Some w ≡ Some u → Some (boolean (same_data v w)) ≡ Some (boolean true)
    from u e f =
        let q : v ≡ w = cc in
        subst (λ x. Some (boolean (same_data v x)) ≡ Some (boolean true)) q (ap (λ b. Some (boolean b)) (same_itself v))

-- an equation of two values is TRUE exactly where they are equal
pub equal_values-yes : (o p : Option Data) (x y : Data) → o ≡ Some x → p ≡ Some y → (binary_value infixs.Equal o p ≡ Some (boolean true)) ↔ (x ≡ y)
equal_values-yes o p x y a b = (to, from)
  where
    to : binary_value infixs.Equal o p ≡ Some (boolean true) → x ≡ y
    to h = let r = (equal-yes o p).0 h in the r.0 r.1 r.2
      where
        the : (v : Data) → o ≡ Some v → p ≡ Some v → x ≡ y
        the v k l = cc

    from : x ≡ y → binary_value infixs.Equal o p ≡ Some (boolean true)
    from h = (equal-yes o p).1 (y, a ∙ ap Some h, b)

-- some member of a list of one is what is asked for exactly where this one is
pub any3-one : (p : Data → Option Bool) (v : Data) → (from_truth (any3 p (v ∷ [])) ≡ Some (boolean true)) ↔ (p v ≡ Some true)
any3-one p v = go (p v)
  where
    go : (q : Option Bool) → (from_truth (or3 q (Some false)) ≡ Some (boolean true)) ↔ (q ≡ Some true)
    go (Some true) = (λ h. refl, λ h. refl)
    go (Some false) = (λ h. absurd (cc), λ h. absurd (cc))
    go None = (λ h. absurd (cc), λ h. absurd (cc))

-- \E x \in {e} : p
abbrev choice : Name → (e p : Tree) → Tree
choice x e p = quantified quantifiers.Exists (bound ((x ∷ [], set_of (trees (e ∷ []))) ∷ [])) p

-- whether p is TRUE of m
abbrev truth_at : Name → Tree → Scope → Data → Option Bool
truth_at x p s m = truth_of (val p (with_name x (Some m) s))

choice-is : (x : Name) (e p : Tree) (s : Scope) (v : Data) → val e s ≡ Some v → set_from (v ∷ []) ≡ Some (set (item v no_items)) → val (choice x e p) s ≡ from_truth (any3 (truth_at x p s) (v ∷ []))
choice-is x e p s v h g = rw h (rw g refl)

choice-none : (x : Name) (e p : Tree) (s : Scope) → val e s ≡ None → val (choice x e p) s ≡ None
choice-none x e p s h = rw h refl

-- a choice from the one value of e is TRUE exactly where e has a value and the body is TRUE of it; the value must be
-- one that makes a set by itself
pub choice-yes : (x : Name) (e p : Tree) (s : Scope) → ((v : Data) → val e s ≡ Some v → set_from (v ∷ []) ≡ Some (set (item v no_items)))
    → (val (quantified quantifiers.Exists (bound ((x ∷ [], set_of (trees (e ∷ []))) ∷ [])) p) s ≡ Some (boolean true)) ↔ ((v : Data) × (val e s ≡ Some v) × (val p (with_name x (Some v) s) ≡ Some (boolean true)))
choice-yes x e p s one_set = go (val e s) refl
  where
    the : (u v : Data) → val e s ≡ Some u → val e s ≡ Some v → u ≡ v
    the u v h k = cc

    go : (o : Option Data) → val e s ≡ o
        → (val (choice x e p) s ≡ Some (boolean true)) ↔ ((v : Data) × (val e s ≡ Some v) × (val p (with_name x (Some v) s) ≡ Some (boolean true)))
    go None h = (λ k. absurd (let j = choice-none x e p s h in cc), λ k. absurd (let j = k.1 in cc))
    go (Some v) h =
        let is = choice-is x e p s v h (one_set v h) in
        let one = any3-one (truth_at x p s) v in
        let yes = truth_of-yes (val p (with_name x (Some v) s)) in (
          λ k. (v, h, yes.0 (one.0 (sym is ∙ k))),
          λ k. is ∙ one.1 (yes.1 (subst (λ u. val p (with_name x (Some u) s) ≡ Some (boolean true)) (the k.0 v k.1 h) k.2)),
        )

-- a CASE of one arm whose test is TRUE is the arm's value
pub case-one : (g e : Tree) (s : Scope) → val g s ≡ Some (boolean true) → val (case_of (arms ((g, e) ∷ []))) s ≡ val e s
case-one g e s h = ap (λ o. decide (truth_of o) (val e s) None) h
