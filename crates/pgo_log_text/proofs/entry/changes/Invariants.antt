-- What the loop keeps: what is left to read gives the same.
use Rattle.std.proofs.Common.{◌≡◌, ◌-◌, [], map}
use Rattle.pgo_model.specs.LogView.{change_view}
use Rattle.pgo_log_text.specs.Lines as spec
use Rattle.pgo_log_text.proofs.entry.changes.Given as goal

abbrev pub invariant-loop-turn : goal.invariant-loop-turn
invariant-loop-turn l = spec.changes l.count [] l.fn.cursor ≡ spec.changes (l.count - l._turn) (map change_view l.changes) l.cursor
