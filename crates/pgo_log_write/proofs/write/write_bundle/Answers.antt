use Rattle.std.proofs.Common.{◌∷◌, ◌++◌, map, length, ap, ◌∙◌, append_assoc}
use Rattle.std.proofs.lemmas.List.{length-map}
use Rattle.std.specs.Prelude.{codes, decimal}
use Rattle.pgo_bundle.specs.BundleLog.{Two}
use Rattle.pgo_bundle.specs.Accounts.{read_accounts_lines}
use Rattle.pgo_bundle.specs.Lines.{all_logged_lines, head_lines, note_line}
use Rattle.pgo_bundle.specs.RunLog.{accounts_from, logged_from, notes_at}
use Rattle.pgo_meaning.specs.System.{system_of, member_of, resource_of}
use Rattle.pgo_model.specs.Bundle.{value_line}
use Rattle.pgo_model.specs.ModuleText.{line, flatten, Text}
use Rattle.pgo_model.specs.ModuleView.{module_view}
use Rattle.pgo_log_write.specs.Lines.{accounts_rows}
use Rattle.pgo_log_write.proofs.Joined.{whole_joined}
use Rattle.pgo_log_write.proofs.Matching.{all_match, accounts_are}
use Rattle.pgo_log_write.proofs.RunLaws.{many_logged, table_same}
use Rattle.pgo_log_write.proofs.write.write_bundle.Goals as goal

pub returns-clause-text : goal.returns-clause-text
returns-clause-text c settings g h =
    let b = c.args.bound.now in
    let y = system_of b in
    let f = c.args.f.now in
    let text = Text (module_view c.args.m.now) in
    let head = flatten (head_lines Two c.args.consts.now (length text)) in
    let matched = all_match y settings g f b.instances h (h.count ∙ length-map b.instances member_of) in
    let accounts = (λ j. accounts_rows (map resource_of (c.as_slice.ensures j)) 0 (c.as_slice-2.ensures j) (c.as_slice-3.ensures j)) ∙ accounts_are y settings g 0 b.instances f.accounts matched in
    let steps = table_same f.journal g.entries g.notes h.entries h.notes in
    let b1 = c.push_head.new.bytes.items in
    let b2 = c.push_journal.new.bytes.items in
    let b3 = c.push_accounts.new.bytes.items in
    c.in_ok-from_bytes.ensures
    ∙ whole_joined b1 b2 b3 c.push_end.new.bytes.items (head ++ text) (line (codes "init " ++ decimal (length b.start)) ∷ map value_line b.start) (map note_line (notes_at 0 g.notes)) (all_logged_lines 1 (logged_from 1 g.notes g.entries))
    (read_accounts_lines 0 (accounts_from y settings g 0 y.members)) (line (codes "end " ++ decimal (length (logged_from 1 g.notes g.entries)) ++ codes " " ++ decimal c.args.status))
    (c.in_ok-push_head.ensures.bytes ∙ ap (λ t. t ++ (head ++ text)) c.new-bytes.ensures.items)
    (c.in_ok-push_journal.ensures ∙ ap (λ ls. b1 ++ flatten ((line (codes "init " ++ decimal (length b.start)) ∷ map value_line b.start) ++ ls.0 ++ ls.1)) steps)
    (c.in_ok-push_accounts.ensures ∙ ap (λ ls. b2 ++ flatten ls) accounts)
    (c.in_ok-push_end.ensures ∙ ap (λ n. b3 ++ line (codes "end " ++ decimal n ++ codes " " ++ decimal c.args.status)) (c.len.ensures.entries ∙ ap length h.entries ∙ many_logged 1 g.notes g.entries))
    ∙ append_assoc head text _
