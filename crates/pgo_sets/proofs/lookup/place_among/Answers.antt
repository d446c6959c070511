use Rattle.std.proofs.Common.{◌<◌, ◌≤◌, ◌+◌, ◌-◌, ◌/◌, ℕ, length, ap, sym, ◌∙◌, arith}
use Rattle.pgo_base.specs.declared.value.Value.{Value}
use Rattle.pgo_base.specs.PairsView.{all_pairs}
use Rattle.pgo_base.specs.Order.{data_cmp}
use Rattle.pgo_base.specs.View.{data_of, key_of}
use Rattle.pgo_sets.proofs.Searched.{all_between, upper_half, lower_half, key_found, nothing_between}
use Rattle.pgo_sets.proofs.lookup.place_among.Goals as goal

pub loop-low-init : goal.loop-low-init
loop-low-init c = (omega arith, omega (arith, c.len-high.ensures), all_between (data_of c.args.key.now) (all_pairs c.args.pairs) c.len-high.result c.len-high.ensures)

middle_in : (low high n : ℕ) → low < high → high ≤ n → low + (high - low) / 2 < n
middle_in low high n l h = omega arith

pub loop-low-preserved-in-Less : goal.loop-low-preserved-in-Less
loop-low-preserved-in-Less c =
    let ps = all_pairs c.args.pairs in
    let low = c.loop-low.low in
    let high = c.loop-low.high in
    let l : low < high = c.loop-low-test.true in
    let b = middle_in low high (length ps) l c.loop-low.invariant.1 in (
      omega (arith, l),
      c.loop-low.invariant.1,
      upper_half (data_of c.args.key.now) ps low (low + (high - low) / 2) high c.at.result.now c.requires b c.at.ensures (sym c.compare.ensures ∙ c.in-Less.is) c.loop-low.invariant.2,
    )

pub returns-in-Equal : goal.returns-in-Equal
returns-in-Equal c =
    let ps = all_pairs c.args.pairs in
    let low = c.loop-low.low in
    let high = c.loop-low.high in
    let p = c.at.result.now in
    let k = data_of c.args.key.now in
    let b = middle_in low high (length ps) c.loop-low-test.true c.loop-low.invariant.1 in
    sym (key_found k ps (low + (high - low) / 2) p c.requires b (ap (λ (q : Value × Value). data_cmp (key_of q) k) (sym c.at.ensures) ∙ sym c.compare.ensures ∙ c.in-Equal.is))

pub loop-low-preserved : goal.loop-low-preserved
loop-low-preserved c =
    let ps = all_pairs c.args.pairs in
    let low = c.loop-low.low in
    let high = c.loop-low.high in
    let l : low < high = c.loop-low-test.true in
    let b = middle_in low high (length ps) l c.loop-low.invariant.1 in (
      omega (arith, l),
      omega (arith, b),
      lower_half (data_of c.args.key.now) ps low (low + (high - low) / 2) high c.at.result.now c.requires b c.at.ensures (sym c.compare.ensures ∙ c.in-Greater.is) c.loop-low.invariant.2,
    )

pub returns : goal.returns
returns c = sym (nothing_between (data_of c.args.key.now) (all_pairs c.args.pairs) c.loop-low.low c.loop-low.high c.loop-low-test.false c.loop-low.invariant.2)
