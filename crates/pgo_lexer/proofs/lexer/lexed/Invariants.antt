-- What the loop keeps: what is left to read gives the same, and offset and column are small.
use Rattle.std.proofs.Common.{◌≡◌, ◌+◌, ◌-◌, ◌*◌, ◌≤◌, [], length}
use Rattle.pgo_lexer.specs.Lexing.{lexed}
use Rattle.pgo_lexer.proofs.lexer.lexed.Given as goal

abbrev pub invariant-loop-turn : goal.invariant-loop-turn
invariant-loop-turn l = record {
  lexed : lexed l.limit (length l.fn.text) 0 0 [] l.fn.text ≡ lexed l.limit (l._turn-end - l._turn) l.column l.at l.tokens l.rest;
  small : l.at + length l.rest ≤ length l.fn.text;
  near : l.column ≤ 8 * l.at;
  few : length l.fn.text ≤ 1152921504606846976;
}
