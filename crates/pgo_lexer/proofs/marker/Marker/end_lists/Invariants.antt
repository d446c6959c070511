-- What the loop keeps: what is left to end gives the same.
use Rattle.std.proofs.Common.{◌≡◌, ◌++◌, length}
use Rattle.pgo_lexer.specs.Marking.{unlisted}
use Rattle.pgo_lexer.proofs.marker.Marker.end_lists.Given as goal

abbrev pub invariant-loop-self : goal.invariant-loop-self
invariant-loop-self l = record {
  marks : l.self.out ++ (unlisted l.self.frames).marks ≡ l.fn.self.out ++ (unlisted l.fn.self.frames).marks;
  frames : (unlisted l.self.frames).frames ≡ (unlisted l.fn.self.frames).frames;
  after : l.self.after_operand ≡ l.fn.self.after_operand;
}

abbrev pub decreases-loop-self : goal.decreases-loop-self
decreases-loop-self l = length l.self.frames
