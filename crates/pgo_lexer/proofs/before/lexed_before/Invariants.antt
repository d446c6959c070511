-- What the loop keeps: whatever tokens follow, behind those that were taken they are those of the text; all begin before the
-- end; and offset and column are small.
use Rattle.std.proofs.Common.{◌+◌, ◌*◌, ◌≤◌, ◌<◌, ◌++◌, List, drop, length}
use Rattle.std.specs.List.{All}
use Rattle.pgo_lexer.specs.declared.token.Lexeme.{Lexeme}
use Rattle.pgo_lexer.specs.Prefixes.{AreCounted, LexesTo}
use Rattle.pgo_lexer.proofs.before.lexed_before.Given as goal

abbrev pub invariant-loop-turn : goal.invariant-loop-turn
invariant-loop-turn l = record {
  tokens : (more : List Lexeme) → LexesTo l.fn.end l.column l.at l.rest more → LexesTo l.fn.end l.fn.column l.fn.start (drop l.fn.start l.fn.text) (l.tokens ++ more);
  early : All (λ t. t.start < l.fn.end) l.tokens;
  counted : AreCounted l.tokens;
  small : l.at + length l.rest ≤ length l.fn.text;
  turns : l._turn + length l.rest ≤ length l.fn.text;
  near : l.column ≤ 8 * l.at;
  few : length l.fn.text ≤ 1152921504606846976;
}
