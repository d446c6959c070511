use Rattle.std.proofs.Common.{◌≡◌, map, drop}
use Rattle.pgo_model.specs.Log.{after_changes}
use Rattle.pgo_model.specs.LogView.{change_view}
use Rattle.pgo_show_text.proofs.places.after_changes.Given as goal

abbrev pub invariant-loop-change : goal.invariant-loop-change
invariant-loop-change l = after_changes (map change_view l.changes) l.fn.before ≡ after_changes (map change_view (drop l.change-index l.changes)) l.state
