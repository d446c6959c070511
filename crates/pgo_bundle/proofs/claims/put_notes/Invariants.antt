use Rattle.std.proofs.Common.{◌≡◌, drop, map}
use Rattle.pgo_bundle.specs.Tables as spec
use Rattle.pgo_bundle.specs.View.{logged_note_view}
use Rattle.pgo_bundle.specs.ClaimView.{table_view}
use Rattle.pgo_bundle.proofs.claims.put_notes.Given as goal

abbrev pub invariant-loop-n : goal.invariant-loop-n
invariant-loop-n l = spec.put_notes l.position (map logged_note_view (drop l.n-index l.notes)) (table_view l.table) ≡ spec.put_notes l.position (map logged_note_view l.notes) (table_view l.fn.table)
