-- What the loop keeps: what stands before the end is what was read, and what stands before it in the bytes that are left.
use Rattle.std.proofs.Common.{◌≡◌, ◌≤◌, ◌+◌, drop}
use Rattle.pgo_log_text.specs.declared.value.Place.TheVariants.{Outside}
use Rattle.pgo_log_text.specs.Bytes as spec
use Rattle.pgo_log_text.proofs.value.value_length.Given as goal

abbrev pub invariant-loop-i : goal.invariant-loop-i
invariant-loop-i l =
    (spec.value_length Outside 0 l.bytes ≡ l.i + spec.value_length l.place l.open_brackets (drop l.i l.bytes)) × (l.open_brackets ≤ l.i)
