use Rattle.std.proofs.Common.{map, ap, ◌∙◌}
use Rattle.pgo_bundle.specs.Tables.{broken_rows}
use Rattle.pgo_bundle.specs.Untied.{or_else, unnamed_entry, unnamed_among, unnamed_behind}
use Rattle.pgo_bundle.specs.View.{account_view, bundle_log_view, logged_entry_view, logged_note_view}
use Rattle.pgo_bundle.specs.ClaimView.{rows_view}
use Rattle.pgo_bundle.proofs.TableLaws.{rows_broken}
use Rattle.pgo_bundle.proofs.untied.first_untied.Goals as goal

pub returns : goal.returns
returns c =
    let l = bundle_log_view c.args.log.now in
    let broken = c.broken_rows-broken.ensures ∙ (λ j. broken_rows (rows_view (c.as_slice.ensures.value j)) 0 (map account_view (c.as_slice-accounts.ensures j)))
    ∙ ap (λ t. broken_rows t 0 l.accounts) c.in_ok-table.ensures ∙ rows_broken l 0 l.accounts
    in
    let entry = c.unnamed_entry-entry.ensures ∙ (λ j. unnamed_entry (map account_view (c.as_slice-accounts.ensures j)) 1 (map logged_entry_view (c.as_slice-2.ensures j))) in
    let first = c.unnamed_among-first.ensures ∙ (λ j. unnamed_among (map account_view (c.as_slice-accounts.ensures j)) 0 0 (map logged_note_view (c.as_slice-3.ensures j))) in
    let behind = c.unnamed_behind.ensures ∙ (λ j. unnamed_behind (map account_view (c.as_slice-accounts.ensures j)) 1 (map logged_entry_view (c.as_slice-4.ensures j))) in
    let note = c.or_else-note.ensures ∙ (λ j. or_else (first j) (behind j)) in
    c.or_else-2.ensures ∙ (λ j. or_else (broken j) ((c.or_else.ensures ∙ (λ k. or_else (entry k) (note k))) j))
