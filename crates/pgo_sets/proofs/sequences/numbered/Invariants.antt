use Rattle.std.proofs.Common.{◌≡◌, length, map}
use Rattle.pgo_base.specs.View.{data_of, pair_of}
use Rattle.pgo_model.specs.Operators.{sequence_at}
use Rattle.pgo_sets.proofs.sequences.numbered.Given as goal

abbrev pub invariant-loop-v : goal.invariant-loop-v
invariant-loop-v l = record {
  iterator : (goal.iterator-loop-v).can_next l.v-iterator × (goal.iterator-loop-v).is_finite l.v-iterator;
  pairs : map pair_of l.pairs.items ≡ sequence_at 1 (map data_of l.yielded);
  count : length l.pairs.items ≡ length l.yielded;
}
