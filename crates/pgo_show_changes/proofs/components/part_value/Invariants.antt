-- What the loop keeps: those that are left give the same.
use Rattle.std.proofs.Common.{◌≡◌, map, drop}
use Rattle.pgo_base.specs.PairsView.{all_pairs}
use Rattle.pgo_base.specs.View.{pair_of}
use Rattle.pgo_show_changes.specs.Components as spec
use Rattle.pgo_show_changes.proofs.components.part_value.Given as goal

abbrev pub invariant-loop-i : goal.invariant-loop-i
invariant-loop-i l = spec.part_value l.word l.name (map pair_of (all_pairs l.parts)) ≡ spec.part_value l.word l.name (map pair_of (drop l.i (all_pairs l.parts)))
