use Rattle.std.proofs.Common.{map, ◌∙◌}
use Rattle.pgo_bundle.specs.Tables.{put_notes, put_entries, empty_account}
use Rattle.pgo_bundle.specs.View.{account_view, bundle_log_view, logged_entry_view, logged_note_view}
use Rattle.pgo_bundle.proofs.TableLaws.{all_put}
use Rattle.pgo_bundle.proofs.claims.claims_of.Goals as goal

pub returns : goal.returns
returns c =
    let opened = c.in_ok-table.ensures ∙ (λ j. map empty_account (map account_view (c.as_slice.ensures j))) in
    let noted = c.put_notes.ensures ∙ (λ j. put_notes 0 (map logged_note_view (c.as_slice-2.ensures j)) (opened j)) in
    c.put_entries.ensures ∙ (λ j. put_entries 1 (map logged_entry_view (c.as_slice-3.ensures j)) (noted j)) ∙ all_put (bundle_log_view c.args.log.now)
