use Rattle.std.proofs.Common.{sym, subst, rules}
use Rattle.pgo_base.specs.Data.{keys}
use Rattle.pgo_base.specs.Sets.{IsSorted}
use Rattle.pgo_base.specs.View.{data_of}
use Rattle.std.proofs.Common.{map}
use Rattle.pgo_sets.proofs.Numbered.{numbered_more, count_more, sorted_sequence}
use Rattle.pgo_sets.proofs.sequences.numbered.Goals as goal

pub loop-v-preserved : goal.loop-v-preserved
loop-v-preserved c = record {
  iterator = (tt, tt);
  pairs = numbered_more c.loop-v.pairs.items c.push.new.self.items c.loop-v.yielded c.number.result c.in-Some.v c.len-in-loop-v.result c.in_ok-push.ensures.items c.number.ensures (search rules) c.loop-v.invariant.count c.loop-v.invariant.pairs;
  count = count_more c.loop-v.pairs.items c.push.new.self.items _ c.loop-v.yielded c.in-Some.v c.in_ok-push.ensures.items c.loop-v.invariant.count;
}

pub returns-clause-sorted : goal.returns-clause-sorted
returns-clause-sorted c = subst (λ ps. IsSorted (keys ps)) (sym c.loop-v.invariant.pairs) (sorted_sequence 1 (map data_of c.loop-v.yielded))
