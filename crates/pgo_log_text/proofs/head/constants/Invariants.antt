-- What the loop keeps: what is left to read gives the same.
use Rattle.std.proofs.Common.{◌≡◌, ◌-◌, [], map}
use Rattle.pgo_base.specs.View.{named_data}
use Rattle.pgo_log_text.specs.Lines as spec
use Rattle.pgo_log_text.proofs.head.constants.Given as goal

abbrev pub invariant-loop-turn : goal.invariant-loop-turn
invariant-loop-turn l = spec.constants l.count [] l.fn.cursor ≡ spec.constants (l.count - l._turn) (map named_data l.list.items) l.cursor
