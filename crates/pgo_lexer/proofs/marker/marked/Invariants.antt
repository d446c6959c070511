-- What the loop keeps: what is left to mark gives the same, and where all tokens begin within a text, those that are left do.
use Rattle.std.proofs.Common.{◌≡◌, ◌≤◌}
use Rattle.std.specs.List.{All}
use Rattle.pgo_lexer.specs.Marking.{run, marked}
use Rattle.pgo_lexer.proofs.marker.marked.Given as goal

abbrev pub invariant-loop-lexeme : goal.invariant-loop-lexeme
invariant-loop-lexeme l = record {
  marked : marked l.fn.tokens ≡ run l.marker l.lexeme-iterator.rest.items;
  starts : All (λ t. t.start ≤ l.fn.end) l.fn.tokens → All (λ t. t.start ≤ l.fn.end) l.lexeme-iterator.rest.items;
}
