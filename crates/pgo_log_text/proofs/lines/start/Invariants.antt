-- What the loop keeps: what is left to read gives the same.
use Rattle.std.proofs.Common.{◌≡◌, drop, [], map}
use Rattle.pgo_base.specs.View.{named_data}
use Rattle.pgo_log_text.specs.Lines as spec
use Rattle.pgo_log_text.proofs.lines.start.Given as goal

abbrev pub invariant-loop-name : goal.invariant-loop-name
invariant-loop-name l = spec.start l.names [] l.fn.cursor ≡ spec.start (drop l.name-index l.names) (map named_data l.list.items) l.cursor
