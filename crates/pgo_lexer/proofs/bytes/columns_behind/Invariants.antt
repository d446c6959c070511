-- What the loop keeps: the column behind the bytes so far.
use Rattle.std.proofs.Common.{◌≡◌, ◌+◌, ◌*◌, ◌≤◌, take}
use Rattle.pgo_lexer.specs.Lexemes.{columns_behind}
use Rattle.pgo_lexer.proofs.bytes.columns_behind.Given as goal

abbrev pub invariant-loop-b : goal.invariant-loop-b
invariant-loop-b l = record {
  value : l.at ≡ columns_behind l.column (take l.b-index l.bytes);
  small : l.at ≤ l.column + 8 * l.b-index;
}
