use Rattle.std.proofs.Common.{◌≤◌, ◌-◌, length, drop}
use Rattle.pgo_words.specs.Parts.{texts}
use Rattle.pgo_words.proofs.ParkCuts.{ValuedFront}
use Rattle.pgo_words.proofs.park.park_place.Given as goal

abbrev pub invariant-loop-at : goal.invariant-loop-at
invariant-loop-at l = (l.at ≤ length l.words) × ValuedFront (texts l.words) (texts (drop l.at l.words))

abbrev pub decreases-loop-at : goal.decreases-loop-at
decreases-loop-at l = length l.words - l.at
