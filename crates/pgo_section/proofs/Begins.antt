-- A worker that begins an attempt.
use Rattle.std.proofs.Common.{◌≡◌, ◌<◌, suc, length, map, Some, None, false, sym, ap, ◌∙◌, subst}
use Rattle.pgo_model.specs.Core.{Reaches}
use Rattle.pgo_model.specs.Log.{Effect}
use Rattle.pgo_model.specs.System.{System}
use Rattle.pgo_section.specs.Programs.{IsGood}
use Rattle.pgo_syntax.specs.RecordView.{result_view, settings_view}
use Rattle.pgo_workers.specs.Kept as laws
use Rattle.pgo_workers.specs.Sentences.{Meets}
use Rattle.pgo_workers.specs.Settles.{Settled}
use Rattle.pgo_workers.specs.View.{View}
use Rattle.pgo_workers.specs.Walk.{Walk}
use Rattle.pgo_workers.specs.Worker as spec
use Rattle.pgo_workers.specs.Worker.{Walking, Goes_on, is_giving}
use Rattle.pgo_section.specs.Programs.{Trees, RunsSystem}
use Rattle.pgo_section.specs.Sight.{see, phase_at, placed, program_at, end_of}
use Rattle.pgo_section.specs.Turns.{Met, Ran}
use Rattle.pgo_section.specs.declared.worker.Turn.{Turn}
use Rattle.pgo_section.specs.declared.worker.Worker.{Worker}
use Rattle.pgo_section.proofs.Ends.{rests, not_ended, begun, turned_lifts, begun_meets}
use Rattle.pgo_section.proofs.Events.{world, same_length}
use Rattle.pgo_section.proofs.Keeping.{ran_by}

module _ {C : Type 0} (y : System) (tree : Trees) (walk : C → Walk) (w : Worker C) (going : w.giving ≡ false) (none : w.place ≡ None) (on : end_of w ≡ None) where
  -- there is an attempt to make
  pub is_left : (b : View Effect) → RunsSystem y tree (settings_view w.settings) → Met y tree walk w b → length w.records.items < w.settings.attempts
  is_left b runs m =
      let goes : Goes_on (world y) (program_at y tree w) (see walk w) = (not_ended w walk going none y tree on, ap is_giving (rests w walk going none)) in
      subst (λ n. n < w.settings.attempts) (same_length result_view w.records.items) (laws.under (world y) (program_at y tree w) (Reaches y) (IsGood y) runs (see walk w) b m.meets goes).may.1

  module _ (p : C) (first : walk p ≡ tree w.settings.seed w.number (suc (length (map result_view w.records.items))) w.own) where
    begun_is : see walk (placed (record w { readied = 0 }) p) ≡ begun (world y) (program_at y tree w) (see walk w)
    begun_is = (λ i. record (see walk w) { phase = ((λ j. phase_at walk (going j) (Some p) 0) ∙ ap (λ x. Walking x 0) first) i })

    pub begun_met : (b : View Effect) → RunsSystem y tree (settings_view w.settings) → Met y tree walk w b → Met y tree walk (placed (record w { readied = 0 }) p) b
    begun_met b runs m = record {
      meets = subst (λ v. Meets (world y) (program_at y tree w) (Reaches y) (IsGood y) v b) (sym begun_is)
          (begun_meets (world y) (program_at y tree w) (Reaches y) (IsGood y) runs (see walk w) b (rests w walk going none) (not_ended w walk going none y tree on) m.meets);
      settles = subst (λ (v : spec.Worker). Settled v.phase) (sym begun_is)
          (runs.settles w.number (suc (length (map result_view w.records.items))) w.own (laws.own_is (world y) (program_at y tree w) (Reaches y) (IsGood y) runs (see walk w) b m.meets));
      fits = record { instance = m.fits.instance; records = m.fits.records; taken = m.fits.taken; told = m.fits.told; listed = m.fits.listed };
    }

    pub begun_ran : (b c : View Effect) (v : Worker C) (t : Turn) → Ran y tree walk (placed (record w { readied = 0 }) p) b v c t → Ran y tree walk w b v c t
    begun_ran b c v t h =
        ran_by y tree walk (placed (record w { readied = 0 }) p) w b c v (λ t h.
        turned_lifts (world y) (program_at y tree w) (see walk w) (see walk (placed (record w { readied = 0 }) p)) (see walk v) b c t begun_is (rests w walk going none) (not_ended w walk going none y tree on) h) t h
