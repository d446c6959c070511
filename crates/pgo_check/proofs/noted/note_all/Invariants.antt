use Rattle.std.proofs.Common.{◌≡◌, map, drop}
use Rattle.pgo_model.specs.LogView.{change_view}
use Rattle.pgo_check.specs.Elsewhere.{noted_all}
use Rattle.pgo_check.proofs.noted.note_all.Given as goal

abbrev pub invariant-loop-c : goal.invariant-loop-c
invariant-loop-c l = noted_all l.is_kept l.places (map change_view l.changes) l.fn.kept ≡ noted_all l.is_kept l.places (map change_view (drop l.c-index l.changes)) l.kept
