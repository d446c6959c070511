use Rattle.std.proofs.Common.{◌≡◌, ◌<◌, ◌≤◌, ℕ, length, refl, ap, ◌∙◌, arith}
use Rattle.std.proofs.Math.ListN.{length-set}
use Rattle.pgo_workers.specs.View.{Shown}
use Rattle.pgo_section.proofs.Quiets.{base_set, reset_end, reset_step}
use Rattle.pgo_section.proofs.quiet.reset.Goals as goal

near : (n i j k l : ℕ) → i < n → n ≡ j → j ≡ k → l ≡ k → i < l
near n i j k l h e f m = omega (arith, h, e, f, m)

far : (n i j k l : ℕ) → n ≤ i → n ≡ j → j ≡ k → l ≡ k → l ≤ i
far n i j k l h e f m = omega (arith, h, e, f, m)

pub loop-index-init : goal.loop-index-init
loop-index-init g c = record { many = refl; same = refl; back = λ r h. absurd (omega (arith, h)) }

pub loop-index-preserved : goal.loop-index-preserved
loop-index-preserved g c =
    let inv = c.loop-index.invariant in let xs = c.loop-index.contents.items in let i = c.loop-index.index in let old = c.index_mut.result.now in let new = c.abort.new.self in
    let close = near c.len-index-end.result i _ _ (length xs) c.loop-index-test.true c.len-index-end.ensures c.args.contents.now.ok.0 inv.many in
    record {
      many = length-set xs i new ∙ inv.many;
      same = base_set g.R.Resource.shows xs i old new close c.index_mut.ensures.value (ap (λ (s : Shown). s.base) c.abort.ensures) ∙ inv.same;
      back = reset_step g.R.Resource.shows xs c.args.contents.now.items i old new close c.index_mut.ensures.value c.abort.ensures inv.same inv.back;
    }

pub returns-clause-bases : goal.returns-clause-bases
returns-clause-bases g c = c.loop-index.invariant.same

pub returns-clause-rests : goal.returns-clause-rests
returns-clause-rests g c =
    let inv = c.loop-index.invariant in let xs = c.loop-index.contents.items in let i = c.loop-index.index in
    reset_end g.R.Resource.shows xs c.args.contents.now.items i (far c.len-index-end.result i _ _ (length xs) c.loop-index-test.false c.len-index-end.ensures c.args.contents.now.ok.0 inv.many) inv.same inv.back
