-- A verdict on a bundle is that on its one log.
use Rattle.std.proofs.Common.{ℕ, List, sym, subst}
use Rattle.pgo_base.specs.Data.{Data}
use Rattle.pgo_base.specs.Lookup.{Name}
use Rattle.pgo_model.specs.Module.{Module}
use Rattle.pgo_bundle.specs.BundleLog.{BundleLog, checked_log}
use Rattle.pgo_model.specs.IsRun.{IsRun}
use Rattle.pgo_check.specs.declared.verdict.Verdict.{Verdict}
use Rattle.pgo_check.specs.declared.verdict.Verdict.TheVariants.{Run, Bad}
use Rattle.pgo_check.specs.declared.verdict.Why.TheVariants.{NoInit, NoStep}
use Rattle.pgo_check.specs.Verdict.{Decides}
use Rattle.pgo_log_text.specs.ReadBundle.{IsReadBundle}
use Rattle.pgo_verdicts.specs.Judged.{Judged}
use Rattle.pgo_front.specs.Verdicts.{IsRunVerdict, IsBadVerdict}

-- the verdict on a bundle, of the module, the constants and the log that it is known to have
decided : (text : List ℕ) (m : Module) (consts : List (Name × Data)) (l : BundleLog) → IsReadBundle text m consts l → (v : Verdict) → Judged text v
    → Decides m consts (checked_log l).ids (checked_log l).start (checked_log l).entries v
decided text m consts l bundle v j =
    let e = j.only m consts l bundle in
    subst (λ (k : BundleLog). Decides m consts (checked_log k).ids (checked_log k).start (checked_log k).entries v) (sym e.2)
    (subst (λ cs. Decides m cs (checked_log j.log).ids (checked_log j.log).start (checked_log j.log).entries v) (sym e.1)
    (subst (λ n. Decides n j.consts (checked_log j.log).ids (checked_log j.log).start (checked_log j.log).entries v) (sym e.0) j.decides))

pub run_is_not_bad : (text : List ℕ) (m : Module) (consts : List (Name × Data)) (l : BundleLog) → IsReadBundle text m consts l → IsRun m consts (checked_log l).ids (checked_log l).start (checked_log l).entries
    → (v : Verdict) → Judged text v → IsBadVerdict v → ⊥
run_is_not_bad text m consts l bundle run (Run n) j bad = bad
run_is_not_bad text m consts l bundle run (Bad n NoInit) j bad = (decided text m consts l bundle (Bad n NoInit) j).1 run.begins
run_is_not_bad text m consts l bundle run (Bad n NoStep) j bad =
    let d = decided text m consts l bundle (Bad n NoStep) j in
    let first = d.3 in first.bad (run.steps d.0 first.entry first.found)

pub no_run_is_not_run : (text : List ℕ) (m : Module) (consts : List (Name × Data)) (l : BundleLog) → IsReadBundle text m consts l → (IsRun m consts (checked_log l).ids (checked_log l).start (checked_log l).entries → ⊥)
    → (v : Verdict) → Judged text v → IsRunVerdict v → ⊥
no_run_is_not_run text m consts l bundle none (Run n) j good = none (decided text m consts l bundle (Run n) j).1
no_run_is_not_run text m consts l bundle none (Bad n w) j good = good
