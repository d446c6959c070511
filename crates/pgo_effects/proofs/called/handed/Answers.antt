use Rattle.std.proofs.Common.{◌≡◌, ◌-◌, arith, sym, ap, drop, ◌∙◌}
use Rattle.pgo_effects.proofs.Handed.{given, handed_end, handed_more}
use Rattle.pgo_effects.proofs.called.handed.Goals as goal

pub loop-k-init : goal.loop-k-init
loop-k-init c =
    (c.new-arguments.ensures ∙ sym (handed_end c.args.params.now c.args.list.now c.lesser-k.result c.lesser-k.ensures.one), omega arith, omega arith)

pub loop-k-preserved : goal.loop-k-preserved
loop-k-preserved c =
    let k = c.loop-k.k - 1 in (
      handed_more c.args.params.now c.args.list.now k c.loop-k.k c.index-params-k.result c.index-list-k.result c.in_ok-value.value c.in_ok-name.name c.push.new.self c.loop-k.arguments
          (omega arith) (omega arith) (omega arith) c.index-params-k.is c.index-list-k.is c.in_ok-name.ensures c.in_ok-value.ensures c.in_ok-push.ensures c.loop-k.invariant.0,
      omega arith,
      omega arith,
    )

pub returns : goal.returns
returns c =
    let z : c.loop-k.k ≡ 0 = omega arith in
    c.loop-k.invariant.0 ∙ ap (λ k. given (drop k c.args.params.now) (drop k c.args.list.now)) z
