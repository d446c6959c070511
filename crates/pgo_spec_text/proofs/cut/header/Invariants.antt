-- What the loop keeps: what is left to read gives the same, and offset and column are small.
use Rattle.std.proofs.Common.{◌≡◌, ◌+◌, ◌-◌, ◌*◌, ◌≤◌, [], length, drop}
use Rattle.pgo_spec_text.specs.Cutting.{header}
use Rattle.pgo_spec_text.proofs.cut.header.Given as goal

abbrev pub invariant-loop-turn : goal.invariant-loop-turn
invariant-loop-turn l = record {
  header : header l.limit (length l.fn.text) l.fn.column l.fn.start [] (drop l.fn.start l.fn.text) ≡ header l.limit (l._turn-end - l._turn) l.column l.at l.tokens l.rest;
  small : l.at + length l.rest ≤ length l.fn.text;
  near : l.column ≤ 8 * l.at;
  few : length l.fn.text ≤ 1152921504606846976;
}
