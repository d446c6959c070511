use Rattle.std.proofs.Common.{map, subst}
use Rattle.pgo_base.specs.PairsView.{all_pairs}
use Rattle.pgo_base.specs.View.{data_of, value_of}
use Rattle.pgo_sets.specs.Answers.{Answers}
use Rattle.pgo_sets.proofs.Appending.{none_longer, long_longer, sorted_longer, longer_is}
use Rattle.pgo_sets.proofs.sequences.with_behind.Goals as goal

pub returns-then-is_none : goal.returns-then-is_none
returns-then-is_none c = none_longer c.counted.result (λ r. map value_of (all_pairs r)) c.args.function (data_of c.args.x) c.if-is_none.ensures c.counted.ensures

pub returns-then-count-ge-MOST_MEMBERS : goal.returns-then-count-ge-MOST_MEMBERS
returns-then-count-ge-MOST_MEMBERS c = long_longer c.counted.result (λ r. map value_of (all_pairs r)) c.args.function (data_of c.args.x) c.len-count.result c.if-is_none.ensures c.counted.ensures c.len-count.ensures c.if-count-ge-MOST_MEMBERS.true

pub append-requires : goal.append-requires
append-requires c = sorted_longer c.counted.result (λ r. map value_of (all_pairs r)) c.args.function (data_of c.number.result) (data_of c.args.x) c.len-count.result c.if-is_none.ensures c.counted.ensures c.len-count.ensures c.number.ensures

pub returns : goal.returns
returns c =
    subst (Answers c.built.result) (longer_is c.counted.result (λ r. map value_of (all_pairs r)) c.args.function c.in_ok-longer.longer (data_of c.number.result) (data_of c.args.x) c.len-count.result c.if-is_none.ensures c.counted.ensures c.len-count.ensures c.number.ensures c.in_ok-longer.ensures) c.built.ensures
