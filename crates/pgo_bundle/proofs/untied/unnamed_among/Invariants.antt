use Rattle.std.proofs.Common.{◌≡◌, drop, map}
use Rattle.pgo_bundle.specs.Untied as spec
use Rattle.pgo_bundle.specs.View.{account_view, logged_note_view}
use Rattle.pgo_bundle.proofs.untied.unnamed_among.Given as goal

abbrev pub invariant-loop-place : goal.invariant-loop-place
invariant-loop-place l = spec.unnamed_among (map account_view l.accounts) l.position l.place (map logged_note_view (drop l.place l.notes)) ≡ spec.unnamed_among (map account_view l.accounts) l.position 0 (map logged_note_view l.notes)
