-- A worker before its first turn.
use Rattle.std.proofs.Common.{◌≡◌, [], map, None, false, sym, subst}
use Rattle.pgo_model.specs.Core.{Reaches}
use Rattle.pgo_model.specs.Log.{Effect}
use Rattle.pgo_model.specs.System.{System}
use Rattle.pgo_section.specs.Programs.{IsGood}
use Rattle.pgo_syntax.specs.RecordView.{result_view, settings_view}
use Rattle.pgo_workers.specs.Grown as laws
use Rattle.pgo_workers.specs.Sentences.{Meets}
use Rattle.pgo_workers.specs.Settles.{Settled}
use Rattle.pgo_workers.specs.View.{View}
use Rattle.pgo_workers.specs.Walk.{Walk}
use Rattle.pgo_workers.specs.Worlds.{layout_of, own_in}
use Rattle.pgo_section.specs.Programs.{Trees, RunsSystem}
use Rattle.pgo_section.specs.Sight.{phase_at, program_at}
use Rattle.pgo_section.specs.Turns.{Fits, Met, IsFresh}
use Rattle.pgo_section.specs.declared.worker.Worker.{Worker}
use Rattle.pgo_section.proofs.Events.{world}

module _ {C : Type 0} (y : System) (tree : Trees) (walk : C → Walk) where
  pub opens : (w : Worker C) (b : View Effect) → w.records.items ≡ [] → w.taken.items ≡ [] → w.own ≡ own_in (layout_of y) y.start w.number → w.giving ≡ false → w.place ≡ None → w.dropped ≡ false → RunsSystem y tree (settings_view w.settings)
      → IsFresh y (settings_view w.settings) w.number b → Fits y w → Met y tree walk w b
  opens w b records taken own giving place dropped runs f fits = record {
    meets = subst (λ v. Meets (world y) (program_at y tree w) (Reaches y) (IsGood y) v b)
        (λ i. record { number = w.number; records = map result_view (sym records i); own = sym own i; phase = phase_at walk (sym giving i) (sym place i) w.readied; taken = sym taken i; dropped = sym dropped i })
        (laws.opened_meets (world y) (program_at y tree w) (Reaches y) (IsGood y) runs w.number b
        (record { number = fits.instance; instance = f.instance; steps = f.steps; share = f.share; held = f.held; others = f.others; other_notes = f.other_notes; told = f.told }) f.room);
    settles = subst Settled (λ i. phase_at walk (sym giving i) (sym place i) w.readied) tt;
    fits = fits;
  }
