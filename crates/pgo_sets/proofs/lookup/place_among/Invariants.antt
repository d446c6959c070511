use Rattle.std.proofs.Common.{◌-◌, ◌≤◌, length}
use Rattle.pgo_base.specs.PairsView.{all_pairs}
use Rattle.pgo_base.specs.View.{data_of}
use Rattle.pgo_sets.proofs.Searched.{Between}
use Rattle.pgo_sets.proofs.lookup.place_among.Given as goal

abbrev pub invariant-loop-low : goal.invariant-loop-low
invariant-loop-low l = (l.low ≤ l.high) × (l.high ≤ length (all_pairs l.pairs)) × Between (data_of l.key) (all_pairs l.pairs) l.low l.high

abbrev pub decreases-loop-low : goal.decreases-loop-low
decreases-loop-low l = l.high - l.low
