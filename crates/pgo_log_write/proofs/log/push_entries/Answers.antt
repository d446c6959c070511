use Rattle.std.proofs.Common.{◌≡◌, ◌+◌, ◌++◌, suc, map, refl, ap, ◌∙◌, add-one}
use Rattle.pgo_bundle.specs.BundleLog.{LoggedEntry}
use Rattle.pgo_bundle.specs.Lines.{all_logged_lines, logged_lines}
use Rattle.pgo_bundle.specs.View.{logged_entry_view, logged_note_view}
use Rattle.pgo_model.specs.LogView.{entry_view}
use Rattle.pgo_model.specs.ModuleText.{flatten}
use Rattle.pgo_log_write.specs.Told.{logged_view}
use Rattle.pgo_log_write.proofs.Joined.{each_step}
use Rattle.pgo_log_write.proofs.log.push_entries.Goals as goal

pub loop-i-preserved : goal.loop-i-preserved
loop-i-preserved c =
    let i = c.loop-i.i in
    let x = c.index-entries-i.result in
    let before = c.loop-i.bytes.items in
    let written : LoggedEntry = logged_view x.entry c.told.result c.as_slice.result.now in
    let made : written ≡ logged_entry_view x = λ j. record { entry = entry_view x.entry; prints = c.told.ensures j; notes = map logged_note_view (c.as_slice.ensures j) } in
    each_step logged_entry_view logged_lines all_logged_lines (λ n y ys. refl) c.args.entries.now i (suc i) (suc (i + 1)) x before c.push_entry.new.bytes.items _ c.loop-i-test.true c.index-entries-i.is (ap suc (add-one i))
    (c.in_ok-push_entry.ensures ∙ (λ j. before ++ flatten (logged_lines (add-one i j) (made j)))) c.loop-i.invariant
