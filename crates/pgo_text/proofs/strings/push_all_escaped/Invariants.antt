use Rattle.std.proofs.Common.{◌≡◌, ◌++◌, drop}
use Rattle.pgo_model.specs.ValueText.{all_escaped}
use Rattle.pgo_text.proofs.strings.push_all_escaped.Given as goal

abbrev pub invariant-loop-byte : goal.invariant-loop-byte
invariant-loop-byte l = l.bytes.items ++ all_escaped (drop l.byte-index l.string) ≡ l.initial.bytes.items ++ all_escaped l.string
