-- What the loop keeps: what is left to settle gives the same.
use Rattle.std.proofs.Common.{◌≡◌, ◌++◌, length}
use Rattle.pgo_lexer.specs.Marking.{settle}
use Rattle.pgo_lexer.proofs.marker.Marker.settle.Given as goal

abbrev pub invariant-loop-op : goal.invariant-loop-op
invariant-loop-op l = record {
  marks : l.self.out ++ (settle l.lexeme l.self.frames).marks ≡ l.fn.self.out ++ (settle l.lexeme l.fn.self.frames).marks;
  frames : (settle l.lexeme l.self.frames).frames ≡ (settle l.lexeme l.fn.self.frames).frames;
  is_next : (settle l.lexeme l.self.frames).is_next ≡ (settle l.lexeme l.fn.self.frames).is_next;
  after : l.self.after_operand ≡ l.fn.self.after_operand;
}

abbrev pub decreases-loop-op : goal.decreases-loop-op
decreases-loop-op l = length l.self.frames
