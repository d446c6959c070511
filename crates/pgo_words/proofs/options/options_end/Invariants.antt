use Rattle.std.proofs.Common.{◌≤◌, ◌-◌, length, drop}
use Rattle.pgo_words.specs.Parts.{texts}
use Rattle.pgo_words.proofs.OptionCuts.{SoFar}
use Rattle.pgo_words.proofs.options.options_end.Given as goal

abbrev pub invariant-loop-end : goal.invariant-loop-end
invariant-loop-end l = (l.end ≤ length l.words) × SoFar (texts l.words) (texts (drop l.end l.words))

abbrev pub decreases-loop-end : goal.decreases-loop-end
decreases-loop-end l = length l.words - l.end
