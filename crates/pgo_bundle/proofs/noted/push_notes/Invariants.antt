use Rattle.std.proofs.Common.{◌≡◌, ◌++◌, drop, map, suc}
use Rattle.pgo_syntax.specs.RecordView.{note_view}
use Rattle.pgo_bundle.specs.Migrated.{notes_told}
use Rattle.pgo_bundle.specs.View.{attempt_view}
use Rattle.pgo_bundle.proofs.noted.push_notes.Given as goal

abbrev pub invariant-loop-i : goal.invariant-loop-i
invariant-loop-i l = map note_view l.notes.items ++ notes_told l.instance (suc l.i) (map attempt_view (drop l.i l.records)) ≡ map note_view l.initial.notes.items ++ notes_told l.instance 1 (map attempt_view l.records)
