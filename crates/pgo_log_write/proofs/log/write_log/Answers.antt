use Rattle.std.proofs.Common.{◌∷◌, ◌++◌, map, length, sym, ap, ◌∙◌, append_assoc}
use Rattle.std.proofs.lemmas.List.{length-map}
use Rattle.std.specs.Prelude.{codes, decimal}
use Rattle.pgo_bundle.specs.Accounts.{read_accounts_lines}
use Rattle.pgo_bundle.specs.BundleLog.{Two}
use Rattle.pgo_bundle.specs.Lines.{all_logged_lines, head_lines, note_line}
use Rattle.pgo_bundle.specs.View.{account_view, bundle_log_view, logged_entry_view, logged_note_view}
use Rattle.pgo_model.specs.Bundle.{value_line}
use Rattle.pgo_model.specs.ModuleText.{line, flatten, Text}
use Rattle.pgo_model.specs.ModuleView.{module_view}
use Rattle.pgo_log_write.proofs.Joined.{values_are, log_joined}
use Rattle.pgo_log_write.proofs.log.write_log.Goals as goal

pub returns-clause-text : goal.returns-clause-text
returns-clause-text c =
    let l = bundle_log_view c.args.log.now in
    let text = Text (module_view c.args.m.now) in
    let head = flatten (head_lines Two c.args.consts.now (length text)) in
    let start = l.start in
    let b1 = c.push_head.new.bytes.items in
    let b2 = c.push_values.new.bytes.items in
    let b3 = c.push_notes.new.bytes.items in
    let b4 = c.push_entries.new.bytes.items in
    let b5 = c.push_accounts.new.bytes.items in
    let init = line (codes "init " ++ decimal (length start)) in
    let last = line (codes "end " ++ decimal (length l.entries) ++ codes " " ++ decimal l.status) in
    c.in_ok-from_bytes.ensures
    ∙ log_joined (head ++ text) b2 b3 b4 b5 c.push_end.new.bytes.items init (map value_line start) (map note_line l.notes) (all_logged_lines 1 l.entries) (read_accounts_lines 0 l.accounts) last
    (c.in_ok-push_values.ensures ∙ ap (λ t. b1 ++ t) (values_are (codes "init") c.as_slice.result.now start c.as_slice.ensures)
    ∙ ap (λ t. t ++ flatten (init ∷ map value_line start)) (c.in_ok-push_head.ensures.bytes ∙ ap (λ t. t ++ (head ++ text)) c.new-bytes.ensures.items))
    (c.in_ok-push_notes.ensures ∙ ap (λ ns. b2 ++ flatten (map note_line (map logged_note_view ns))) c.as_slice-2.ensures)
    (c.in_ok-push_entries.ensures ∙ ap (λ es. b3 ++ flatten (all_logged_lines 1 (map logged_entry_view es))) c.as_slice-entries.ensures)
    (c.in_ok-push_accounts.ensures ∙ ap (λ cs. b4 ++ flatten (read_accounts_lines 0 (map account_view cs))) c.as_slice-3.ensures)
    (c.in_ok-push_end.ensures ∙ ap (λ n. b5 ++ line (codes "end " ++ decimal n ++ codes " " ++ decimal l.status)) (ap length c.as_slice-entries.ensures ∙ sym (length-map c.args.log.now.entries logged_entry_view)))
    ∙ append_assoc head text _
