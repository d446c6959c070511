-- What the loop keeps: the bytes that are left give the same.
use Rattle.std.proofs.Common.{◌≡◌, drop}
use Rattle.pgo_spec_text.specs.Searching.{row_from}
use Rattle.pgo_spec_text.proofs.search.row_from.Given as goal

abbrev pub invariant-loop-i : goal.invariant-loop-i
invariant-loop-i l = row_from l.bytes ≡ row_from (drop l.i l.bytes)
