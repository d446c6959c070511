-- What the loop keeps: the test of what is left is the test of all.
use Rattle.std.proofs.Common.{◌≡◌, drop}
use Rattle.pgo_lexer.specs.Symbols.{is_beginning}
use Rattle.pgo_spec_text.proofs.search.is_beginning.Given as goal

abbrev pub invariant-loop-i : goal.invariant-loop-i
invariant-loop-i l = is_beginning l.front l.bytes ≡ is_beginning (drop l.i l.front) (drop l.i l.bytes)
