-- What the loop keeps: how many lines end in what is passed and in what is left, and that no more end than bytes are passed.
use Rattle.std.proofs.Common.{◌≡◌, ◌≤◌, ◌+◌, drop}
use Rattle.pgo_log_text.specs.LineNumbers.{newlines}
use Rattle.pgo_log_text.proofs.line.newlines.Given as goal

abbrev pub invariant-loop-b : goal.invariant-loop-b
invariant-loop-b l = (l.count + newlines (drop l.b-index l.text) ≡ newlines l.text) × (l.count ≤ l.b-index)
