-- What the table of operators says of operands and of what follows them.
use Rattle.std.proofs.Common.{◌≡◌, ℕ, ◌+◌, ◌<◌, ◌≤◌, Bool, true, false, ◌&&◌, ◌||◌, ◌⊎◌, inl, inr, refl, ap, sym, subst, arith, nat_lt}
use denote.Enum.Bare.{same_true, true_same}
use Rattle.std.proofs.lemmas.Bool.{ltb-true, lt-ltb}
use Rattle.pgo_expr_read.specs.declared.table.Operator.{Operator}
use Rattle.pgo_expr_read.specs.declared.table.Operator.TheVariants as operator
use Rattle.pgo_base.specs.contracts.expr.Infix.{the_type}
use Rattle.pgo_base.specs.declared.expr.Infix.TheVariants as op
use Rattle.pgo_base.specs.declared.expr.Prefix.{Prefix}
use Rattle.pgo_base.specs.declared.expr.Prefix.TheVariants as pre
use Rattle.pgo_expr_read.specs.declared.table.Form.{Form}
use Rattle.pgo_expr_read.specs.declared.table.Form.TheVariants as form
use Rattle.pgo_expr_read.specs.contracts.table.OperatorPartialEq.TheImpl as derived
use Rattle.pgo_expr_read.specs.Table.{low, high, is_left, same_operator, is_of, takes_left, form_low, prefix_least, right_least}

-- the range of an operator's levels
ranged : (o : Operator) → (low o ≤ high o) × (high o < 31)
unfolding low high
ranged (operator.Infix op.Implies) = (omega arith, omega arith)
ranged (operator.Infix op.Iff) = (omega arith, omega arith)
ranged (operator.Infix op.And) = (omega arith, omega arith)
ranged (operator.Infix op.Or) = (omega arith, omega arith)
ranged (operator.Infix op.Equal) = (omega arith, omega arith)
ranged (operator.Infix op.Differs) = (omega arith, omega arith)
ranged (operator.Infix op.Less) = (omega arith, omega arith)
ranged (operator.Infix op.Greater) = (omega arith, omega arith)
ranged (operator.Infix op.AtMost) = (omega arith, omega arith)
ranged (operator.Infix op.AtLeast) = (omega arith, omega arith)
ranged (operator.Infix op.In) = (omega arith, omega arith)
ranged (operator.Infix op.NotIn) = (omega arith, omega arith)
ranged (operator.Infix op.SubsetEq) = (omega arith, omega arith)
ranged (operator.Infix op.Merge) = (omega arith, omega arith)
ranged (operator.Infix op.Single) = (omega arith, omega arith)
ranged (operator.Infix op.Union) = (omega arith, omega arith)
ranged (operator.Infix op.Intersect) = (omega arith, omega arith)
ranged (operator.Infix op.Without) = (omega arith, omega arith)
ranged (operator.Infix op.Range) = (omega arith, omega arith)
ranged (operator.Infix op.Add) = (omega arith, omega arith)
ranged (operator.Infix op.Subtract) = (omega arith, omega arith)
ranged (operator.Infix op.Modulo) = (omega arith, omega arith)
ranged (operator.Infix op.Multiply) = (omega arith, omega arith)
ranged (operator.Infix op.Concat) = (omega arith, omega arith)
ranged (operator.Infix op.Divide) = (omega arith, omega arith)
ranged operator.Product = (omega arith, omega arith)

pub low-high : (o : Operator) → low o ≤ high o
low-high o = (ranged o).0

pub high-small : (o : Operator) → high o < 31
high-small o = (ranged o).1

pub prefix-small : (p : Prefix) → prefix_least p < 32
unfolding prefix_least
prefix-small pre.Not = omega arith
prefix-small pre.Minus = omega arith
prefix-small pre.Powerset = omega arith
prefix-small pre.Flatten = omega arith
prefix-small pre.Domain = omega arith

-- the derived equality says the same
pub derived_operator : (o p : Operator) → derived.ghosts.eq o p ≡ same_operator o p
derived_operator (operator.Infix a) (operator.Infix b) = refl
derived_operator (operator.Infix a) operator.Product = refl
derived_operator operator.Product (operator.Infix b) = refl
derived_operator operator.Product operator.Product = refl

-- operators are the same exactly where they are one
pub one_operator : (o : Operator) → same_operator o o ≡ true
one_operator (operator.Infix a) = true_same the_type a a refl
one_operator operator.Product = refl

same : (o p : Operator) → same_operator o p ≡ true → o ≡ p
same (operator.Infix a) (operator.Infix b) e = ap operator.Infix (same_true the_type tt a b e)
same operator.Product operator.Product e = refl
same (operator.Infix a) operator.Product e = cc
same operator.Product (operator.Infix b) e = cc

either : (a b : Bool) → (a || b) ≡ true → (a ≡ true) ⊎ (b ≡ true)
either true b e = inl refl
either false b e = inr e

either_left : (a b : Bool) → a ≡ true → (a || b) ≡ true
either_left true b e = refl
either_left false b e = cc

both_of : (a b : Bool) → (a && b) ≡ true → b ≡ true
both_of true b e = e
both_of false b e = cc

of_same : (o : Operator) (f : Form) → is_of o f ≡ true → f ≡ form.Operation o
of_same o (form.Operation p) e = ap form.Operation (sym (same o p e))
of_same o (form.Prefix p) e = cc
of_same o form.Closed e = cc

-- an operand on the left is higher, or of the same operator
pub left_cases : (o : Operator) (f : Form) → takes_left o f ≡ true → (high o + 1 < form_low f) ⊎ (f ≡ form.Operation o)
unfolding takes_left
left_cases o f e =
    elim (either (nat_lt (high o + 1) (form_low f)) (is_left o && is_of o f) e)
    [ inl h ↦ inl (ltb-true (high o + 1) (form_low f) h) | inr h ↦ inr (of_same o f (both_of (is_left o) (is_of o f) h)) ]

pub left_higher : (o : Operator) (f : Form) → high o + 1 < form_low f → takes_left o f ≡ true
unfolding takes_left
left_higher o f h = either_left _ _ (lt-ltb (high o + 1) (form_low f) h)

-- an operand on the left is at every level that its operator is at
pub left_level : (o : Operator) (f : Form) (least : ℕ) → takes_left o f ≡ true → least ≤ low o → least ≤ form_low f
left_level o f least e l =
    elim (left_cases o f e) [
      | inl h ↦ (let a = low-high o in omega arith)
      | inr h ↦ (let P : Form → Type 0 = λ x. least ≤ form_low x in subst P (sym h) l)
    ]

-- what may follow an operation doesn't go on from its right operand
pub right_stops : (o p : Operator) → takes_left p (form.Operation o) ≡ true → low p < right_least o
right_stops o p e =
    let a = low-high o in
    let b = low-high p in
    elim (left_cases p (form.Operation o) e) [
      | inl h ↦ omega arith
      | inr h ↦ (let same : low o ≡ low p = ap form_low h in omega arith)
    ]

pub right_takes : (o p : Operator) (g : Form) → takes_left p (form.Operation o) ≡ true → right_least o ≤ form_low g → takes_left p g ≡ true
right_takes o p g e r =
    let a = low-high o in
    elim (left_cases p (form.Operation o) e) [
      | inl h ↦ left_higher p g (omega arith)
      | inr h ↦ (let P : Form → Type 0 = λ x. takes_left p x ≡ true in let same : o ≡ p = cc in let Q : Operator → Type 0 = λ x. right_least x ≤ form_low g in let k : right_least p ≤ form_low g = subst Q same r in left_higher p g (omega arith))
    ]

pub prefix_stops : (q : Prefix) (p : Operator) → takes_left p (form.Prefix q) ≡ true → low p < prefix_least q
prefix_stops q p e =
    let b = low-high p in
    elim (left_cases p (form.Prefix q) e) [ inl h ↦ omega arith | inr h ↦ cc ]

pub prefix_takes : (q : Prefix) (p : Operator) (g : Form) → takes_left p (form.Prefix q) ≡ true → prefix_least q ≤ form_low g → takes_left p g ≡ true
prefix_takes q p g e r =
    elim (left_cases p (form.Prefix q) e) [ inl h ↦ left_higher p g (omega arith) | inr h ↦ cc ]
