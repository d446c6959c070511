use Rattle.std.proofs.Common.{◌≡◌, ◌+◌, ◌≤◌, length}
use Rattle.pgo_lexer.specs.Pieces as spec
use Rattle.pgo_lexer.proofs.comment.behind_comment.Given as goal

abbrev pub invariant-loop-depth : goal.invariant-loop-depth
invariant-loop-depth l = record {
  behind : spec.behind_comment l.depth l.rest ≡ spec.behind_comment 1 l.bytes;
  small : l.depth + length l.rest ≤ length l.bytes + 1;
}

abbrev pub decreases-loop-depth : goal.decreases-loop-depth
decreases-loop-depth l = length l.rest
