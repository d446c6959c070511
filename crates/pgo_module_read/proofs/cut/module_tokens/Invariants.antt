-- What the loop keeps: what is left to read gives the same, and offset and column are small.
use Rattle.std.proofs.Common.{◌≡◌, ◌+◌, ◌-◌, ◌*◌, ◌≤◌, None, length, drop}
use Rattle.pgo_module_read.specs.Cutting.{module_tokens}
use Rattle.pgo_module_read.proofs.cut.module_tokens.Given as goal

abbrev pub invariant-loop-turn : goal.invariant-loop-turn
invariant-loop-turn l = record {
  tokens : module_tokens l.limit (length l.fn.text) None l.fn.column l.fn.start l.fn.tokens (drop l.fn.start l.fn.text) ≡ module_tokens l.limit (l._turn-end - l._turn) l.row l.column l.at l.tokens l.rest;
  small : l.at + length l.rest ≤ length l.fn.text;
  near : l.column ≤ 8 * l.at;
  few : length l.fn.text ≤ 1152921504606846976;
}
