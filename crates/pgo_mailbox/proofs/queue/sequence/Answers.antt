use Rattle.std.proofs.Common.{sym, ap, subst, arith, length, ◌∙◌, ◌<◌, ◌-◌, ◌++◌, ◌∷◌, [], map, take, drop}
use Rattle.std.proofs.lemmas.List.{length-map}
use Rattle.pgo_base.specs.Data.{keys}
use Rattle.pgo_base.specs.Sets.{IsSorted}
use Rattle.pgo_base.specs.View.{data_of}
use Rattle.pgo_sets.proofs.Numbered.{sorted_sequence}
use Rattle.pgo_mailbox.proofs.QueueLaws.{one_pair}
use Rattle.pgo_mailbox.proofs.queue.sequence.Goals as goal

pub from_sorted-requires : goal.from_sorted-requires
from_sorted-requires c =
    subst (λ ps. IsSorted (keys ps)) (sym c.loop-i.invariant.pairs)
    (sorted_sequence 1 (take (c.loop-i.i - c.args.from) (drop c.args.from (map data_of c.args.messages.now.items))))

pub loop-i-preserved : goal.loop-i-preserved
loop-i-preserved c =
    let xs = c.args.messages.now.items in
    let h : c.loop-i.i < length xs = omega (arith, c.loop-i-test.true, c.requires.within, length-map xs data_of) in
    record {
      pairs = one_pair xs c.args.from c.loop-i.i c.index.result.now c.number.result c.loop-i.pairs.items c.push.new.self.items c.loop-i.invariant.low h c.index.ensures c.number.ensures
          (c.in_ok-push.ensures.items ∙ ap (λ z. c.loop-i.pairs.items ++ (c.number.result, z) ∷ []) c.in_ok-copy.ensures) c.loop-i.invariant.pairs;
      low = omega (arith, c.loop-i.invariant.low);
    }
