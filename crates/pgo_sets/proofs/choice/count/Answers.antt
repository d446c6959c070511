use Rattle.std.proofs.Common.{◌≡◌, ◌*◌, ◌-◌, ◌^◌, min, length, map, drop, ◌+◌, ap, sym, ◌∙◌, arith, ℕ}
use Rattle.std.proofs.Math.Nat.{mul_assoc}
use Rattle.pgo_model.specs.FunctionSets.{choice_count}
use Rattle.pgo_sets.specs.Choices.{members_in}
use Rattle.pgo_sets.proofs.Each.{map_end}
use Rattle.pgo_sets.proofs.Choosing.{saturate, count_step}
use Rattle.pgo_sets.proofs.choice.count.Goals as goal

abbrev most : ℕ
most = 2 ^ 64 - 1

pub loop-c-preserved : goal.loop-c-preserved
loop-c-preserved c =
    let cs = c.args.choices.now in
    let n = c.loop-c.count in
    let rest = choice_count (map members_in (drop (c.loop-c.c-index + 1) cs)) in
    let long = length (members_in c.c-item.result) in
    let times : c.saturating_mul-count.result ≡ min (n * long) most = c.saturating_mul-count.ensures ∙ ap (λ m. min (n * m) most) c.len.ensures in (
      omega (arith, times),
      c.loop-c.invariant.1
          ∙ ap (λ m. min (n * m) most) (count_step cs c.loop-c.c-index c.c-item.result c.loop-c-test.true c.c-item.is)
          ∙ ap (λ m. min m most) (sym (mul_assoc n long rest))
          ∙ sym (saturate (n * long) rest most)
          ∙ ap (λ m. min (m * rest) most) (sym times),
    )

pub returns : goal.returns
returns c =
    let n = c.loop-c.count in
    let one : n ≡ min (n * 1) most = omega (arith, c.loop-c.invariant.0) in
    one ∙ sym (c.loop-c.invariant.1 ∙ ap (λ ms. min (n * choice_count ms) most) (map_end members_in c.args.choices.now c.loop-c.c-index (omega arith)))
