-- What the loop keeps: the test of what is left is the test of all.
use Rattle.std.proofs.Common.{◌≡◌, ◌+◌, map, drop}
use Rattle.pgo_base.specs.Data.{pairs}
use Rattle.pgo_base.specs.PairsView.{all_pairs}
use Rattle.pgo_base.specs.View.{pair_of}
use Rattle.pgo_model.specs.ValueText.{is_sequence_from}
use Rattle.pgo_value_text.proofs.write.is_sequence.Given as goal

abbrev pub invariant-loop-i : goal.invariant-loop-i
invariant-loop-i l = is_sequence_from 1 (pairs (map pair_of (all_pairs l.list))) ≡ is_sequence_from (l.i + 1) (pairs (map pair_of (drop l.i (all_pairs l.list))))
