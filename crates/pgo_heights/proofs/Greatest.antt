-- The greatest height of expressions, and one that has it.
use Rattle.std.proofs.Common.{◌≡◌, ℕ, max, ◌≤◌, ◌⊎◌, List, [], ◌∷◌, ◌++◌, refl, ap, sym, ◌∙◌, inl, inr, leb, true, false, Bool, arith}
use Rattle.std.proofs.lemmas.Bool.{leb-true, leb-false}
use Rattle.pgo_base.specs.Lists.{IsAmong}
use Rattle.pgo_base.specs.Tree.{Tree}
use Rattle.pgo_expr_read.specs.Heights.{height}
use Rattle.pgo_heights.specs.Expressions.{expressions_of, IsGreatestHeight}
use Rattle.pgo_model.specs.Module.{Module}

abbrev pub greatest : List Tree → ℕ
greatest [] = 0
greatest (t ∷ ts) = max (height t) (greatest ts)

pub greatest_append : (ts us : List Tree) → greatest (ts ++ us) ≡ max (greatest ts) (greatest us)
greatest_append [] us = omega arith
greatest_append (t ∷ ts) us = omega (arith, greatest_append ts us)

pub no_higher : (ts : List Tree) (e : Tree) → IsAmong e ts → height e ≤ greatest ts
no_higher [] e h = absurd h
no_higher (t ∷ ts) e (inl same) = let k = ap height same in omega (arith, k)
no_higher (t ∷ ts) e (inr h) = let k = no_higher ts e h in omega (arith, k)

which : (a b : ℕ) → (max a b ≡ a) ⊎ (max a b ≡ b)
which a b = go (leb a b) refl
  where
    go : (t : Bool) → leb a b ≡ t → (max a b ≡ a) ⊎ (max a b ≡ b)
    go true e = inr (let k = leb-true a b e in omega (arith, k))
    go false e = inl (let k = leb-false a b e in omega (arith, k))

-- one that is so high
pub highest_one : (ts : List Tree) → 1 ≤ greatest ts → (e : Tree) × IsAmong e ts × (height e ≡ greatest ts)
highest_one [] some = absurd (omega (arith, some))
highest_one (t ∷ ts) some = go (which (height t) (greatest ts)) (highest_one ts)
  where
    go : (max (height t) (greatest ts) ≡ height t) ⊎ (max (height t) (greatest ts) ≡ greatest ts)
        → (1 ≤ greatest ts → (e : Tree) × IsAmong e ts × (height e ≡ greatest ts))
        → (e : Tree) × IsAmong e (t ∷ ts) × (height e ≡ max (height t) (greatest ts))
    go (inl e) rest = (t, inl refl, sym e)
    go (inr e) rest = let r = rest (omega (arith, some, e)) in (r.0, inr r.1, r.2 ∙ sym e)

pub greatest_in : (m : Module) (k : ℕ) → 1 ≤ k → greatest (expressions_of m) ≡ k → IsGreatestHeight m k
greatest_in m k some e =
    let r = highest_one (expressions_of m) (omega (arith, some, e)) in
    record {
      some = record { expression = r.0; among = r.1; high = r.2 ∙ e };
      most = λ t h. (let n = no_higher (expressions_of m) t h in omega (arith, n, e));
    }
