-- What the loop keeps: the bytes that are left give the same.
use Rattle.std.proofs.Common.{◌≡◌, false, [], drop}
use Rattle.pgo_value_text.specs.Reading as spec
use Rattle.pgo_value_text.proofs.cursor.Cursor.string.Given as goal

abbrev pub invariant-loop-i : goal.invariant-loop-i
invariant-loop-i l =
    spec.string_from false [] l.bytes ≡ spec.string_from l.escaping l.string.items (drop l.i l.bytes)
