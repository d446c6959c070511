use Rattle.std.proofs.Common.{◌≡◌, map, drop}
use Rattle.pgo_model.specs.Log.{are_in}
use Rattle.pgo_model.specs.LogView.{change_view}
use Rattle.pgo_check.proofs.states.are_in_at.Given as goal

abbrev pub invariant-loop-c : goal.invariant-loop-c
invariant-loop-c l = are_in (map change_view l.changes) l.s ≡ are_in (map change_view (drop l.c-index l.changes)) l.s
