use Rattle.std.proofs.Common.{◌≡◌, ◌++◌}
use Rattle.pgo_pluscal.specs.Text.{blanks}
use Rattle.pgo_pluscal.proofs.words.push_blanks.Given as goal

abbrev pub invariant-loop-left : goal.invariant-loop-left
invariant-loop-left l = l.bytes.items ++ blanks l.left ≡ l.initial.bytes.items ++ blanks l.level

abbrev pub decreases-loop-left : goal.decreases-loop-left
decreases-loop-left l = l.left
