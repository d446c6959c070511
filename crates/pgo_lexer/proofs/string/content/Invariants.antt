use Rattle.std.proofs.Common.{◌≡◌, ◌+◌, ◌-◌, ◌≤◌, [], length}
use Rattle.pgo_lexer.specs.Pieces.{chars}
use Rattle.pgo_lexer.proofs.string.content.Given as goal

abbrev pub invariant-loop-turn : goal.invariant-loop-turn
invariant-loop-turn l = record {
  chars : chars (length l.fn.bytes) [] 1 l.fn.bytes ≡ chars (l._turn-end - l._turn) l.string.items l.at l.rest;
  small : l.at + length l.rest ≤ length l.fn.bytes + 1;
}
