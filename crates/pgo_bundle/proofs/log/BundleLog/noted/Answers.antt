use Rattle.std.proofs.Common.{length, map, sym, ap, ◌∙◌, suc}
use Rattle.std.proofs.lemmas.List.{length-map}
use Rattle.pgo_bundle.specs.Migrated.{all_told}
use Rattle.pgo_bundle.specs.PositionView.{place_view}
use Rattle.pgo_bundle.specs.Positions.{by_position}
use Rattle.pgo_bundle.specs.View.{account_view, bundle_log_view, logged_entry_view, logged_note_view, version_view}
use Rattle.pgo_bundle.proofs.NotedLaws.{noted_is}
use Rattle.pgo_syntax.specs.RecordView.{note_view}
use Rattle.pgo_bundle.proofs.log.BundleLog.noted.Goals as goal

pub returns : goal.returns
returns c =
    let parts = c.into_parts-version in
    let entries = map logged_entry_view parts.result.2 in
    let count = length c.as_slice-2.result.now in
    let told = map note_view c.in_ok-told.told.items in
    let table = map place_view c.in_ok-places.places.items in
    noted_is (bundle_log_view c.args.self) (version_view parts.result.0) parts.result.1 (map logged_note_view c.in_ok-notes.notes) (map logged_entry_view c.in_ok-entries.entries) (map account_view parts.result.3) parts.result.4
    told count table (map place_view c.as_slice-4.result.now) (map place_view c.as_slice-5.result.now) entries
    (ap version_view parts.ensures.version) parts.ensures.start (ap (map account_view) parts.ensures.accounts) parts.ensures.status (ap (map logged_entry_view) parts.ensures.entries)
    (c.in_ok-told.ensures ∙ ap (λ xs. all_told 0 (map account_view xs)) (c.as_slice.ensures ∙ parts.ensures.accounts))
    (ap length c.as_slice-2.ensures ∙ sym (length-map parts.result.2 logged_entry_view))
    (c.in_ok-places.ensures ∙ ap (λ xs. by_position 0 (suc count) (map note_view xs)) c.as_slice-3.ensures.value)
    (ap (map place_view) c.as_slice-4.ensures.value) (ap (map place_view) c.as_slice-5.ensures.value) c.in_ok-notes.ensures c.in_ok-entries.ensures
