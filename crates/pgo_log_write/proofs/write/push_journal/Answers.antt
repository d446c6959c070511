use Rattle.std.proofs.Common.{◌∷◌, ◌++◌, map, length, suc, refl, ap, ◌∙◌}
use Rattle.std.proofs.lemmas.Result.{IfOk-equal}
use Rattle.std.specs.Prelude.{codes, decimal}
use Rattle.pgo_bundle.specs.Lines.{all_logged_lines, note_line}
use Rattle.pgo_bundle.specs.Noted.{place_of}
use Rattle.pgo_bundle.specs.PositionView.{place_view}
use Rattle.pgo_bundle.specs.Positions.{by_position}
use Rattle.pgo_model.specs.Bundle.{value_line}
use Rattle.pgo_model.specs.ModuleText.{line, flatten}
use Rattle.pgo_module_write.proofs.Joins.{lines_joined}
use Rattle.pgo_log_write.specs.JournalRows.{notes_of}
use Rattle.pgo_log_write.specs.RunRows.{run_entries}
use Rattle.pgo_log_write.proofs.Joined.{values_are}
use Rattle.pgo_log_write.proofs.write.push_journal.Goals as goal

pub returns : goal.returns
returns c =
    let j = c.args.journal.now in
    let start = c.args.start.now in
    let table = c.in_ok-places.ensures ∙ (λ i. by_position 0 (suc (c.len.ensures.entries i)) (c.notes.ensures.notes i)) in
    let init = line (codes "init " ++ decimal (length start)) in
    let first = map note_line (place_of 0 (notes_of j)) in
    let entries = all_logged_lines 1 (run_entries 1 (notes_of j) j.entries) in
    let b1 = c.push_values.new.bytes.items in
    let b2 = c.push_notes.new.bytes.items in
    let e1 = c.in_ok-push_values.ensures ∙ ap (λ t. c.args.bytes.now.items ++ t) (values_are (codes "init") c.as_slice.result.now start c.as_slice.ensures) in
    let e2 = c.in_ok-push_notes.ensures ∙ ap (λ ns. b1 ++ flatten (map note_line ns)) (c.place_at.ensures ∙ ap (λ ps. place_of 0 (map place_view ps)) c.as_slice-2.ensures.value ∙ ap (place_of 0) table) in
    IfOk-equal c.push_run.result _ _ _ c.push_run.ensures
    (ap (λ t. b2 ++ flatten (all_logged_lines 1 (run_entries 1 t j.entries))) (ap (map place_view) c.as_slice-3.ensures.value ∙ table)
    ∙ lines_joined c.args.bytes.now.items b2 (b2 ++ flatten entries) ((init ∷ map value_line start) ++ first) entries (lines_joined c.args.bytes.now.items b1 b2 (init ∷ map value_line start) first e1 e2) refl)
