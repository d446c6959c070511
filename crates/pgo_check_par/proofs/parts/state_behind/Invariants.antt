use Rattle.std.proofs.Common.{◌≡◌, drop, length, map}
use Rattle.pgo_model.specs.Log.{StateAt}
use Rattle.pgo_model.specs.LogView.{entry_view}
use Rattle.pgo_check.specs.Placed.{ArePlaces}
use Rattle.pgo_check_par.proofs.parts.state_behind.Given as goal

abbrev pub invariant-loop-e : goal.invariant-loop-e
invariant-loop-e l = record {
  same : StateAt l.fn.before (map entry_view l.entries) (length l.entries) ≡ StateAt l.state (map entry_view (drop l.e-index l.entries)) (length (drop l.e-index l.entries));
  placed : ArePlaces l.state l.places;
}
