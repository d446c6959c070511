use Rattle.std.proofs.Common.{◌≡◌, ◌+◌, ◌≤◌, ℕ, suc, length, arith}
use Rattle.pgo_section.proofs.Values.{place_here, place_after, place_end}
use Rattle.pgo_section.proofs.changes.place_of.Goals as goal

here : (i x n : ℕ) → i + x ≡ n → x ≡ 0 → i ≡ n
here i x n e f = omega (arith, e, f)

further : (i x z n : ℕ) → i + x ≡ n → x ≡ suc z → (i + 1) + z ≡ n
further i x z n e f = omega (arith, e, f)

pub returns-then-resource-v-clause-place : goal.returns-then-resource-v-clause-place
returns-then-resource-v-clause-place c =
    here c.loop-i.i _ _ c.loop-i.invariant (place_here c.args.resource c.args.values.now c.loop-i.i c.index-values-i.result c.loop-i-test.true c.index-values-i.is c.if-resource-v.true)

pub loop-i-preserved : goal.loop-i-preserved
loop-i-preserved c =
    further c.loop-i.i _ _ _ c.loop-i.invariant (place_after c.args.resource c.args.values.now c.loop-i.i c.index-values-i.result c.loop-i-test.true c.index-values-i.is c.if-resource-v.false)

pub returns-clause-place : goal.returns-clause-place
returns-clause-place c = same (length c.args.values.now) c.loop-i.i _ _ c.loop-i-test.false c.loop-i.auto.i-end c.loop-i.invariant (place_end c.args.resource c.args.values.now c.loop-i.i c.loop-i-test.false)
  where
    same : (l i x n : ℕ) → l ≤ i → i ≤ l → i + x ≡ n → x ≡ 0 → l ≡ n
    same l i x n h k e f = omega (arith, h, k, e, f)
