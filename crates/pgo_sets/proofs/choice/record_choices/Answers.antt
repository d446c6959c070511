use Rattle.std.proofs.Common.{map, ap, sym, arith}
use Rattle.pgo_base.specs.PairsView.{all_pairs}
use Rattle.pgo_base.specs.View.{data_of}
use Rattle.pgo_sets.specs.Choices.{choice_of}
use Rattle.pgo_sets.proofs.Paired.{record_none, record_some, record_all, choices_push}
use Rattle.pgo_sets.proofs.choice.record_choices.Goals as goal

pub returns-in_default : goal.returns-in_default
returns-in_default c = sym (record_none (all_pairs c.args.fields) (map choice_of c.loop-i.choices.items) c.loop-i.i c.at-p.result.now c.loop-i.invariant (omega (arith, c.loop-i-test.true, c.len-i-end.ensures)) c.at-p.ensures (sym c.in_default.ensures))

pub loop-i-preserved : goal.loop-i-preserved
loop-i-preserved c =
    record_some (all_pairs c.args.fields) (map choice_of c.loop-i.choices.items) _ c.loop-i.i c.at-p.result.now c.in-Some.members.now c.loop-i.invariant (omega (arith, c.loop-i-test.true, c.len-i-end.ensures)) c.at-p.ensures (sym c.in-Some.ensures) (choices_push c.loop-i.choices.items c.push.new.self.items _ _ c.in_ok-push.ensures.items (ap data_of c.in_ok-key.ensures))

pub returns : goal.returns
returns c = sym (record_all (all_pairs c.args.fields) (map choice_of c.loop-i.choices.items) c.loop-i.i c.loop-i.invariant (omega (arith, c.loop-i-test.false, c.len-i-end.ensures)))
