use Rattle.std.proofs.Common.{◌++◌, map, ap, ◌∙◌}
use Rattle.std.proofs.lemmas.Result.{IfOk-equal}
use Rattle.pgo_bundle.specs.Lines.{note_line, prints_lines, step_line}
use Rattle.pgo_bundle.specs.View.{logged_note_view}
use Rattle.pgo_model.specs.Bundle.{change_line}
use Rattle.pgo_model.specs.LogView.{change_view, entry_view}
use Rattle.pgo_model.specs.ModuleText.{flatten}
use Rattle.pgo_log_write.specs.Told.{told_view}
use Rattle.pgo_log_write.proofs.Joined.{logged_joined}
use Rattle.pgo_log_write.proofs.entries.push_entry.Goals as goal

pub returns : goal.returns
returns c =
    let e = c.args.entry.now in
    let told = told_view c.args.prints in
    IfOk-equal c.push_notes.result _ _ _ c.push_notes.ensures
    (logged_joined c.args.bytes.now.items c.push_step.new.bytes.items c.push_changes.new.bytes.items c.push_told.new.bytes.items
    (step_line c.args.n (entry_view e) told) (map change_line (map change_view e.changes)) (prints_lines told) (map note_line (map logged_note_view c.args.notes.now))
    c.in_ok-push_step.ensures (c.in_ok-push_changes.ensures ∙ ap (λ cs. c.push_step.new.bytes.items ++ flatten (map change_line (map change_view cs))) c.as_slice.ensures) c.in_ok-push_told.ensures)
