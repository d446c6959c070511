use Rattle.std.proofs.Common.{map, ◌++◌, arith}
use Rattle.pgo_base.specs.PairsView.{all_pairs}
use Rattle.pgo_base.specs.View.{pair_of}
use Rattle.pgo_sets.proofs.Parts.{pairs_copied, pairs_all_copied}
use Rattle.pgo_sets.proofs.functions.add_pairs.Goals as goal

pub loop-i-preserved : goal.loop-i-preserved
loop-i-preserved c =
    let ps = all_pairs c.args.more in
    pairs_copied c.loop-i.all.items c.push.new.self.items ps (map pair_of c.args.all.now.items ++ map pair_of ps) c.loop-i.i c.at-p.result.now c.in_ok-copy.field-0 c.in_ok-copy-2.field-0 c.loop-i.invariant (omega (arith, c.loop-i-test.true, c.len-i-end.ensures)) c.at-p.ensures c.in_ok-push.ensures.items c.in_ok-copy.ensures c.in_ok-copy-2.ensures

pub returns : goal.returns
returns c =
    let ps = all_pairs c.args.more in
    pairs_all_copied c.loop-i.all.items ps (map pair_of c.args.all.now.items ++ map pair_of ps) c.loop-i.i c.loop-i.invariant (omega (arith, c.loop-i-test.false, c.len-i-end.ensures))
