-- What the loop keeps: the test of what is left is the test of all.
use Rattle.std.proofs.Common.{◌≡◌, map, drop}
use Rattle.pgo_base.specs.Data.{pairs}
use Rattle.pgo_base.specs.PairsView.{all_pairs}
use Rattle.pgo_base.specs.View.{pair_of}
use Rattle.pgo_model.specs.ValueText as text
use Rattle.pgo_value_text.proofs.write.all_fields.Given as goal

abbrev pub invariant-loop-i : goal.invariant-loop-i
invariant-loop-i l = text.all_fields (pairs (map pair_of (all_pairs l.list))) ≡ text.all_fields (pairs (map pair_of (drop l.i (all_pairs l.list))))
