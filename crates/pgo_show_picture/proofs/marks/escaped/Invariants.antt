-- What the loop keeps: the bytes so far, and those that are left, are all.
use Rattle.std.proofs.Common.{◌≡◌, ◌++◌, drop}
use Rattle.pgo_show_picture.specs.Marks as spec
use Rattle.pgo_show_picture.proofs.marks.escaped.Given as goal

abbrev pub invariant-loop-byte : goal.invariant-loop-byte
invariant-loop-byte l = l.bytes.items ++ spec.escaped (drop l.byte-index l.text) ≡ spec.escaped l.text
