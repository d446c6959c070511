-- Each turn of the loop is a turn of the function.
use Rattle.std.proofs.Common.{rules, arith, length, map, ap, ◌∙◌}
use Rattle.std.proofs.lemmas.Grind.{common_steps}
use Rattle.std.proofs.lemmas.List.{length_push, map_push}
use Rattle.pgo_bundle.specs.View.{logged_note_view}
use Rattle.pgo_log_text.proofs.NoteTurns.{note_shorter, note_turn, note_read, notes_end}
use Rattle.pgo_log_text.proofs.told.notes.Goals as goal

pub returns-in_err-note : goal.returns-in_err-note
returns-in_err-note c =
    let e = note_turn (length c.parts.notes) (map logged_note_view c.parts.notes) c.parts.cursor c.parts.invariant.1 c.parts.invariant.0 (search rules) in
    first_of (search rules, grind (arith, common_steps))

pub parts-preserved : goal.parts-preserved
parts-preserved c =
    note_read (length c.parts.notes) _ (map logged_note_view c.parts.notes) _ (logged_note_view c.in_ok-note.field-0) c.parts.cursor c.note.new.cursor c.parts.invariant.1 c.parts.invariant.0 (search rules) c.in_ok-note.ensures
    (ap length c.in_ok-push.ensures ∙ length_push c.parts.notes c.in_ok-note.field-0) (ap (map logged_note_view) c.in_ok-push.ensures ∙ map_push logged_note_view c.parts.notes c.in_ok-note.field-0)

pub parts-smaller : goal.parts-smaller
parts-smaller c =
    let shorter = note_shorter c.parts.cursor (logged_note_view c.in_ok-note.field-0) c.note.new.cursor c.in_ok-note.ensures in
    omega (arith, shorter)

pub returns : goal.returns
returns c =
    let e = notes_end (length c.parts.notes) (map logged_note_view c.parts.notes) c.parts.cursor c.parts.invariant.1 c.parts.invariant.0 (search rules) in
    first_of (search rules, grind (arith, common_steps))
