-- What the loop keeps: what is left to close gives the same.
use Rattle.std.proofs.Common.{◌≡◌, length}
use Rattle.pgo_lexer.specs.Ends.{ended}
use Rattle.pgo_lexer.proofs.before.closed.Given as goal

abbrev pub invariant-loop-frame : goal.invariant-loop-frame
invariant-loop-frame l = ended l.fn.at l.fn.marker ≡ ended l.fn.at l.all

abbrev pub decreases-loop-frame : goal.decreases-loop-frame
decreases-loop-frame l = length l.all.frames
