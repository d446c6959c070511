-- What the loop keeps: what is left to read gives the same.
use Rattle.std.proofs.Common.{◌≡◌, ◌-◌, [], map}
use Rattle.pgo_base.specs.View.{data_of}
use Rattle.pgo_log_text.specs.Lines as spec
use Rattle.pgo_log_text.proofs.told.prints.Given as goal

abbrev pub invariant-loop-turn : goal.invariant-loop-turn
invariant-loop-turn l = spec.prints l.count [] l.fn.cursor ≡ spec.prints (l.count - l._turn) (map data_of l.list.items) l.cursor
