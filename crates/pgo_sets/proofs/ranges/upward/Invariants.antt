use Rattle.std.proofs.Common.{◌≡◌, int_lt, false, ◌++◌, map}
use Rattle.pgo_base.specs.View.{data_of}
use Rattle.pgo_model.specs.Operators.{upward, span}
use Rattle.pgo_sets.proofs.ranges.upward.Given as goal

abbrev pub invariant-loop-next : goal.invariant-loop-next
invariant-loop-next l = record {
  members : map data_of l.members.items ++ upward l.next (span l.next l.high) ≡ upward l.low (span l.low l.high);
  order : int_lt l.high l.next ≡ false;
}

abbrev pub decreases-loop-next : goal.decreases-loop-next
decreases-loop-next l = span l.next l.high
