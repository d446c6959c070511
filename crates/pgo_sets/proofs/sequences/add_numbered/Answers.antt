use Rattle.std.proofs.Common.{◌≡◌, ◌<◌, ◌+◌, length, ap, sym, ◌∙◌, rules, arith}
use Rattle.std.proofs.lemmas.List.{append-nil}
use Rattle.pgo_base.specs.PairsView.{all_pairs}
use Rattle.pgo_model.specs.Operators.{sequence_at}
use Rattle.pgo_sets.proofs.Parts.{next_numbered}
use Rattle.pgo_sets.proofs.sequences.add_numbered.Goals as goal

pub loop-i-init : goal.loop-i-init
loop-i-init c = (omega arith, λ vs e. e ∙ ap (sequence_at 1) (sym (append-nil vs)))

pub loop-i-preserved : goal.loop-i-preserved
loop-i-preserved c =
    let ps = all_pairs c.args.pairs in
    let count : c.len.result ≡ length c.loop-i.all.items = search rules in
    let inside : c.args.from + c.loop-i.i < length ps = omega (arith, c.loop-i-test.true, c.requires.part) in (
      search rules,
      λ vs e. next_numbered c.loop-i.all.items c.push.new.self.items ps vs c.args.from c.loop-i.i c.at.result.now c.number-key.result c.in_ok-v.v c.len.result (c.loop-i.invariant.1 vs e) inside c.at.ensures c.in_ok-push.ensures.items c.number-key.ensures count c.in_ok-v.ensures,
    )
