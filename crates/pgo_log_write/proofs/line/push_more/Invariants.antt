use Rattle.std.proofs.Common.{◌≡◌, ◌++◌, drop}
use Rattle.pgo_log_write.proofs.Joined.{behind_blank}
use Rattle.pgo_log_write.proofs.line.push_more.Given as goal

abbrev pub invariant-loop-field : goal.invariant-loop-field
invariant-loop-field l = l.bytes.items ++ behind_blank (drop l.field-index l.fields) ≡ l.initial.bytes.items ++ behind_blank l.fields
