use Rattle.std.proofs.Common.{map, refl, ap, ◌∙◌, ◌+◌}
use Rattle.pgo_bundle.specs.PositionView.{place_view}
use Rattle.pgo_bundle.specs.RunLog.{told_prints}
use Rattle.pgo_model.specs.LogView.{entry_view}
use Rattle.pgo_log_write.proofs.RunLaws.{run_step, entry_made}
use Rattle.pgo_log_write.proofs.run.push_run.Goals as goal

pub loop-i-preserved : goal.loop-i-preserved
loop-i-preserved c =
    let e = c.entry-entry.result.now in
    let made = entry_made (map place_view c.args.places.now) (c.loop-i.i + 1) e c.told_prints-prints.result c.place_at.result.now
    (c.told_prints-prints.ensures ∙ ap told_prints c.as_slice.ensures) c.place_at.ensures
    in
    run_step (map place_view c.args.places.now) c.args.journal.now.entries c.loop-i.i (c.loop-i.i + 1) (entry_view e) _ c.loop-i.bytes.items c.push_entry.new.bytes.items _ refl
    c.entry-entry.ensures made c.in_ok-push_entry.ensures c.loop-i.invariant
