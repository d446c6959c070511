use Rattle.std.proofs.Common.{◌≡◌, map, drop}
use Rattle.pgo_model.specs.Log.{after_changes}
use Rattle.pgo_model.specs.LogView.{change_view}
use Rattle.pgo_check.specs.Placed.{ArePlaces}
use Rattle.pgo_check.proofs.states.after_changes.Given as goal

abbrev pub invariant-loop-c : goal.invariant-loop-c
invariant-loop-c l = record {
  same : after_changes (map change_view l.changes) l.fn.before ≡ after_changes (map change_view (drop l.c-index l.changes)) l.state;
  placed : ArePlaces l.state l.places;
}
