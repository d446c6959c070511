-- What the loop keeps: the lines so far, with those of the changes that are left, are all.
use Rattle.std.proofs.Common.{◌≡◌, map, drop}
use Rattle.pgo_model.specs.LogView.{change_view, entry_view}
use Rattle.pgo_show_changes.specs.Changes as spec
use Rattle.pgo_show_changes.proofs.written.push_changes.Given as goal

abbrev pub invariant-loop-change : goal.invariant-loop-change
invariant-loop-change l =
    spec.with_changes l.word l.number (entry_view l.entry) (map change_view l.changes) l.fn.lines
    ≡ spec.with_changes l.word l.number (entry_view l.entry) (map change_view (drop l.change-index l.changes)) l.lines
