-- Counts, with what follows put in, are no more than what they count.
use Rattle.std.proofs.Common.{◌≡◌, ◌≤◌, ℕ, ◌+◌, ◌-◌, ◌*◌, ◌^◌, min, arith, ap, sym, subst, ◌∙◌}
use Rattle.std.proofs.Math.Nat.{add-mul, mul-add, mul-le-mul_left, mul-le-mul_right, mul_assoc}
use Rattle.pgo_least_nodes.specs.Counts.{step, both, then'}
use Rattle.pgo_least_nodes.specs.declared.count.Count.{Count}

-- the nodes where what follows has m
abbrev pub with_behind : Count → ℕ → ℕ
with_behind w m = w.nodes + w.paths * m

no_more : (x m : ℕ) → min x (2 ^ 64 - 1) * m ≤ x * m
no_more x m = mul-le-mul_right m (omega arith)

-- the sums, where p, q and r are the products
spread : (n p r x y : ℕ) → x ≤ r → y ≡ p + r → min (n + min p (2 ^ 64 - 1)) (2 ^ 64 - 1) + x ≤ n + y
spread n p r x y h e = omega (arith, h, e)

pub then_count : (a b : Count) (m : ℕ) → with_behind (then' a b) m ≤ with_behind a (with_behind b m)
then_count a b m =
    spread a.nodes (a.paths * b.nodes) (a.paths * b.paths * m) (min (a.paths * b.paths) (2 ^ 64 - 1) * m) (a.paths * (b.nodes + b.paths * m))
    (no_more (a.paths * b.paths) m)
    (mul-add a.paths b.nodes (b.paths * m) ∙ ap (λ z. a.paths * b.nodes + z) (sym (mul_assoc a.paths b.paths m)))

-- the same of the one and the other
beside : (a b p q x : ℕ) → x ≤ p + q → min (a + b) (2 ^ 64 - 1) + x ≤ a + p + (b + q)
beside a b p q x h = omega (arith, h)

pub both_count : (a b : Count) (m : ℕ) → with_behind (both a b) m ≤ with_behind a m + with_behind b m
both_count a b m =
    beside a.nodes b.nodes (a.paths * m) (b.paths * m) (min (a.paths + b.paths) (2 ^ 64 - 1) * m)
    (subst (λ z. min (a.paths + b.paths) (2 ^ 64 - 1) * m ≤ z) (add-mul a.paths b.paths m) (no_more (a.paths + b.paths) m))

pub step_count : (n m : ℕ) → with_behind (step n) m ≤ n + m
step_count n m = omega arith

pub step_then : (n : ℕ) (b : Count) (m : ℕ) → with_behind (then' (step n) b) m ≤ n + with_behind b m
step_then n b m = let q = then_count (step n) b m in omega (arith, q)

pub above : (a : Count) {m k : ℕ} → m ≤ k → with_behind a m ≤ with_behind a k
above a h = let q = mul-le-mul_left a.paths h in omega (arith, q)
