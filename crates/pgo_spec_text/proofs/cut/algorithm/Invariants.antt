-- What the loop keeps: what is left to read gives the same, and offset, column and depth are small.
use Rattle.std.proofs.Common.{◌≡◌, ◌+◌, ◌-◌, ◌*◌, ◌≤◌, [], length}
use Rattle.pgo_spec_text.specs.Cutting.{algorithm}
use Rattle.pgo_spec_text.proofs.cut.algorithm.Given as goal

abbrev pub invariant-loop-turn : goal.invariant-loop-turn
invariant-loop-turn l = record {
  algorithm : algorithm l.limit (length l.fn.body) 0 l.fn.column l.fn.start [] l.fn.body ≡ algorithm l.limit (l._turn-end - l._turn) l.depth l.column l.at l.tokens l.rest;
  small : l.at + length l.rest ≤ l.fn.start + length l.fn.body;
  near : l.column ≤ 8 * l.at;
  few : l.fn.start + length l.fn.body ≤ 1152921504606846976;
  shallow : l.depth ≤ l._turn;
}
