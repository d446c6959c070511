use Rattle.std.proofs.Common.{◌≡◌, ◌++◌, drop, map}
use Rattle.pgo_bundle.specs.Lines.{note_line}
use Rattle.pgo_bundle.specs.View.{logged_note_view}
use Rattle.pgo_model.specs.ModuleText.{flatten}
use Rattle.pgo_log_write.proofs.entries.push_notes.Given as goal

abbrev pub invariant-loop-note : goal.invariant-loop-note
invariant-loop-note l = l.bytes.items ++ flatten (map note_line (map logged_note_view (drop l.note-index l.notes))) ≡ l.initial.bytes.items ++ flatten (map note_line (map logged_note_view l.notes))
